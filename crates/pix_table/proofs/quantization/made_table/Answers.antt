-- Of `made_table`: that the table is the least where all are grays, and else that of the cut.
use Rattle.std.proofs.Common.{length, map, take, inl, inr, subst}
use Rattle.pix_table.specs.quantization.Grays.{AreGrays, IsLeastOr}
use Rattle.pix_table.specs.matching.Nearest.{numbers}
use Rattle.pix_table.specs.quantization.Refine.{IsRefinedCut}
use Rattle.pix_table.proofs.quantization.made_table.Goals as goal

pub returns-then-are_grays-clause-table : goal.returns-then-are_grays-clause-table
returns-then-are_grays-clause-table g c =
    let room = length c.args.entries.now in
    let table = map numbers (take c.least_table.result c.least_table.new.entries) in
    subst (λ l. IsLeastOr (IsRefinedCut c.args.rounds room l table) room l table) c.requires.gathered (inl (c.if-are_grays.ensures, c.least_table.ensures.table))

pub returns-clause-table : goal.returns-clause-table
returns-clause-table g c =
    let room = length c.args.entries.now in
    let table = map numbers (take c.cut_and_refine.result c.cut_and_refine.new.entries) in
    inr (subst (λ l. AreGrays l → ⊥) c.requires.gathered c.if-are_grays.ensures, c.cut_and_refine.ensures.table)
