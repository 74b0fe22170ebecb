use Rattle.std.proofs.Common.{◌≡◌, ℕ, ◌+◌, ◌-◌, ◌*◌, ◌/◌, ◌<◌, ◌≤◌, List, length, map, take, drop, get_or, arith, rules, sym, ap, subst, ◌∙◌}
use borrow.Rule.Slice.PartMut.{put_mid}
use Rattle.pix_scale.specs.Table.{flat}
use Rattle.pix_scale.proofs.Blocks.{cut_at, both_parts, behind_front}
use Rattle.pix_scale.proofs.Flat.{flat_part}
use Rattle.pix_scale.proofs.Parts.{length-put_mid}
use Rattle.pix_scale.proofs.Sums.{length_part, at_of_part}
use Rattle.pix_scale.proofs.rows.add_row.Goals as goal

pub slice_bounds-add_blocks-end : goal.slice_bounds-add_blocks-end
slice_bounds-add_blocks-end g c =
    let n = length c.channels-count.result.now in
    let cut = cut_at (length c.args.row.now) (length c.args.sums.now) n g.P.Pixel.layout.count c.channels-count.ensures.count c.requires.long in
    let fits : length c.args.row.now / 8 * 8 * n ≤ length c.args.sums.now = cut.within in
    search rules

pub add_pixels-requires-2-clause-long : goal.add_pixels-requires-2-clause-long
add_pixels-requires-2-clause-long g c =
    let n = length c.channels-count.result.now in
    let count = g.P.Pixel.layout.count in
    let row = c.args.row.now in
    let sums = c.args.sums.now in
    let cut = cut_at (length row) (length sums) n count c.channels-count.ensures.count c.requires.long in
    let at : ℕ = length row / 8 * 8 in
    let start : ℕ = at * n in
    let front = c.add_blocks.new.sums in
    let f : length front ≡ start = c.add_blocks.auto.sums ∙ length_part sums 0 (start - 0) (omega (arith, cut.within)) ∙ omega arith in
    let one : List ℕ = put_mid 0 (start - 0) sums front in
    let long : length one ≡ length sums = length-put_mid 0 (start - 0) sums front (omega (arith, f)) (omega (arith, cut.within)) in
    length_part one start (length sums - start) (omega (arith, cut.within, long))
    ∙ cut.left
    ∙ sym (ap (λ (z : ℕ). z * count) (length_part row at (length row - at) (omega (arith, cut.below))))

pub add_pixels-requires-2-clause-fits : goal.add_pixels-requires-2-clause-fits
add_pixels-requires-2-clause-fits g c = λ x lt.
    let n = length c.channels-count.result.now in
    let row = c.args.row.now in
    let sums = c.args.sums.now in
    let cut = cut_at (length row) (length sums) n g.P.Pixel.layout.count c.channels-count.ensures.count c.requires.long in
    let start : ℕ = length row / 8 * 8 * n in
    let front = c.add_blocks.new.sums in
    let f : length front ≡ start = c.add_blocks.auto.sums ∙ length_part sums 0 (start - 0) (omega (arith, cut.within)) ∙ omega arith in
    let one : List ℕ = put_mid 0 (start - 0) sums front in
    let long : length one ≡ length sums = length-put_mid 0 (start - 0) sums front (omega (arith, f)) (omega (arith, cut.within)) in
    let size = length_part one start (length sums - start) (omega (arith, cut.within, long)) in
    let in_ : x < length sums - start = subst (λ (z : ℕ). x < z) size lt in
    let same = at_of_part one start (length sums - start) x in_ ∙ behind_front sums front start (start - 0) x cut.within f (omega arith) in
    subst (λ (z : ℕ). z + c.args.weight * g.P.Chan.Channel.max < 4294967296) (sym same) (c.requires.fits (start + x) (omega (arith, in_, cut.within)))

pub returns : goal.returns
returns g c = λ x lt.
    let n = length c.channels-count.result.now in
    let count = g.P.Pixel.layout.count in
    let r = g.D.Stored.reads in
    let row = c.args.row.now in
    let sums = c.args.sums.now in
    let weight = c.args.weight in
    let same : n ≡ count = c.channels-count.ensures.count in
    let cut = cut_at (length row) (length sums) n count same c.requires.long in
    let at : ℕ = length row / 8 * 8 in
    let start : ℕ = at * n in
    let size : length (take (start - 0) (drop 0 sums)) ≡ start = length_part sums 0 (start - 0) (omega (arith, cut.within)) ∙ omega arith in
    let front = c.add_blocks.new.sums in
    let f : length front ≡ start = c.add_blocks.auto.sums ∙ size in
    let one : List ℕ = put_mid 0 (start - 0) sums front in
    let long : length one ≡ length sums = length-put_mid 0 (start - 0) sums front (omega (arith, f)) (omega (arith, cut.within)) in
    let back : length (take (length sums - start) (drop start one)) ≡ length sums - start = length_part one start (length sums - start) (omega (arith, cut.within, long)) in
    let term : ℕ → ℕ = λ y. weight * flat count (map r row) y in
    both_parts sums front c.add_pixels-2.new.sums term start (start - 0) (length sums - start) cut.within f (c.add_pixels-2.auto.sums ∙ back) (omega arith) (omega arith)
    (λ y l.
    let m : ℕ = at - 0 in
    let e : m ≡ at = omega arith in
    let in_ : y < m * count = omega (arith, l, ap (λ (z : ℕ). z * count) e, ap (λ (z : ℕ). at * z) same) in
    let p : get_or (take (start - 0) (drop 0 sums)) y 0 ≡ get_or sums y 0 = at_of_part sums 0 (start - 0) y (omega (arith, l)) ∙ ap (λ (z : ℕ). get_or sums z 0) (omega arith) in
    let q : flat count (map r (take m (drop 0 row))) y ≡ flat count (map r row) y = flat_part r count row 0 m y c.requires.some in_ ∙ ap (flat count (map r row)) (omega arith) in
    c.add_blocks.ensures y (subst (λ (z : ℕ). y < z) (sym size) l)
    ∙ ap (λ (z : ℕ). z + weight * flat count (map r (take m (drop 0 row))) y) p ∙ ap (λ (z : ℕ). get_or sums y 0 + weight * z) q)
    (λ y l.
    let m : ℕ = length row - at in
    let in_ : y < m * count = subst (λ (z : ℕ). y < z) cut.left l in
    let p : get_or (take (length sums - start) (drop start one)) y 0 ≡ get_or one (start + y) 0 = at_of_part one start (length sums - start) y l in
    let place : at * count + y ≡ start + y = omega (arith, ap (λ (z : ℕ). at * z) same) in
    let q : flat count (map r (take m (drop at row))) y ≡ flat count (map r row) (start + y) = flat_part r count row at m y c.requires.some in_ ∙ ap (flat count (map r row)) place in
    c.add_pixels-2.ensures y (subst (λ (z : ℕ). y < z) (sym back) l)
    ∙ ap (λ (z : ℕ). z + weight * flat count (map r (take m (drop at row))) y) p ∙ ap (λ (z : ℕ). get_or one (start + y) 0 + weight * z) q)
    x lt
