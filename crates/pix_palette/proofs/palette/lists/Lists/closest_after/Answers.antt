-- Of `Lists::closest_after`: that the entries before the next one are passed over.
use Rattle.std.proofs.Common.{◌≡◌, length, map, subst}
use Rattle.pix_table.specs.threshold.ColorBlocks.{IsBest}
use Rattle.pix_table.specs.matching.Nearest as nearest
use Rattle.pix_palette.specs.Palette.{numbers}
use Rattle.pix_palette.proofs.Cells.{best_passes}
use Rattle.pix_palette.proofs.palette.lists.Lists.closest_after.Goals as goal

pub closest_between-requires-clause-best : goal.closest_between-requires-clause-best
closest_between-requires-clause-best c =
    best_passes (map numbers c.args.colors.now) (nearest.numbers c.args.clr) c.loop-count.count c.next_near-next.result c.loop-count.at (nearest.numbers c.loop-count.least)
    c.loop-count.invariant.best c.next_near-next.ensures.from c.next_near-next.ensures.far

pub returns-then-next-colors : goal.returns-then-next-colors
returns-then-next-colors c =
    let all : c.next_near-next.result ≡ length c.args.colors.now = c.if-next-colors.true in
    let best : IsBest (map numbers c.args.colors.now) (nearest.numbers c.args.clr) c.next_near-next.result c.loop-count.at (nearest.numbers c.loop-count.least) =
    best_passes (map numbers c.args.colors.now) (nearest.numbers c.args.clr) c.loop-count.count c.next_near-next.result c.loop-count.at (nearest.numbers c.loop-count.least)
    c.loop-count.invariant.best c.next_near-next.ensures.from c.next_near-next.ensures.far in
    subst (λ n. IsBest (map numbers c.args.colors.now) (nearest.numbers c.args.clr) n c.loop-count.at (nearest.numbers c.loop-count.least)) all best
