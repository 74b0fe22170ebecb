use Rattle.std.proofs.Common.{◌≡◌, ◌++◌, ◌∙◌, ◌-◌, ℕ, List, min, length, take, ap, drop, arith}
use Rattle.pix_el.proofs.Copies.{copied_more}
use Rattle.pix_el.proofs.Written.{over_copied}
use Rattle.pix_el.proofs.filled.copy_ends.Goals as goal

pub returns-then-count : goal.returns-then-count
returns-then-count g c =
    let source = c.args.src.now in
    let row = c.args.row.now in
    let part = g.row.PART in
    copied_more (c.min-count.result - part) part c.min-count.result source row _ c.copy_part-then-count.new.row (omega (arith, c.requires.has_two, c.min-count.ensures)) (omega arith) (omega (arith, c.min-count.ensures))
    (ap (λ (l : List g.row.D.Denot). l ++ drop part row) c.copy_part.ensures) c.copy_part-then-count.ensures
    ∙ rw c.min-count.ensures (over_copied source row)

pub returns-else-count : goal.returns-else-count
returns-else-count g c =
    let source = c.args.src.now in
    let row = c.args.row.now in
    let part = g.row.PART in
    let all : part ≡ min (length row) (length source) = omega (arith, c.requires.has_one, c.min-count.ensures) in
    ap (λ (l : List g.row.D.Denot). l ++ drop part row) c.copy_part.ensures
    ∙ ap (λ (n : ℕ). take n source ++ drop n row) all ∙ over_copied source row
