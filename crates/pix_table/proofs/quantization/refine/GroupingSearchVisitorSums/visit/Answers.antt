-- Of `visit` of `Grouping`: the sums are those of all items at the end.
use Rattle.std.proofs.Common.{◌≡◌, ◌+◌, map, arith, ◌∙◌, subst}
use Rattle.pix_table.specs.quantization.Groups.{AreItemGroups}
use Rattle.pix_table.specs.matching.Nearest.{numbers}
use Rattle.pix_table.proofs.quantization.refine.GroupingSearchVisitorSums.visit.Goals as goal

pub returns : goal.returns
returns g c = λ entries finds long.
    let h = c.loop-start.invariant in
    let all : c.loop-start.start ≡ c.args.self.now.items.pairs + c.args.self.now.items.singles = omega (arith, h.within) in
    subst (λ n. AreItemGroups entries (map numbers c.args.self.now.colors.now) c.args.self.now.items.pairs n c.loop-start.items) all
    (h.grouped entries finds (h.long ∙ long))
