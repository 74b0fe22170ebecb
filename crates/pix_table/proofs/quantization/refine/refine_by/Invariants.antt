-- What holds at each turn of the loop in `refine_by`.
use Rattle.std.proofs.Common.{ℕ, ◌-◌, List, map}
use Rattle.pix_table.specs.quantization.Items.{AreItemsOf}
use Rattle.pix_table.specs.matching.Nearest.{numbers}
use Rattle.pix_table.specs.quantization.Refine.{AreRounds}
use Rattle.pix_table.proofs.quantization.refine.refine_by.Given as goal

-- with the rounds that are left they are all rounds
abbrev pub invariant-loop-done : goal.invariant-loop-done
invariant-loop-done l = (all : List (List ℕ)) → AreItemsOf all (map numbers l.colors) l.items.pairs l.items.singles → (new : List (List ℕ))
    → AreRounds (l.rounds - l.done) all (map numbers l.entries) new → AreRounds l.rounds all (map numbers l.fn.entries) new
