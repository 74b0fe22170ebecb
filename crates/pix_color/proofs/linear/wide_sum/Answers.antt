use Rattle.std.specs.Prelude.{pos, ◌+ℤ◌, ◌*ℤ◌}
use Rattle.std.proofs.Common.{◌≡◌, ◌∙◌, ap, w64, to_z, of_z, arith, refl}
use Rattle.std.proofs.lemmas.Int.{ints, int_max_is}
use Rattle.pix_color.proofs.Nearest.{nearest-same, nearest-cut}
use Rattle.pix_color.proofs.Sums.{fits, stays, sum_small, cut_stays}
use Rattle.pix_color.proofs.linear.wide_sum.Goals as goal

pub overflow_add-sum-2 : goal.overflow_add-sum-2
overflow_add-sum-2 g c =
    let a = c.weighted.result in
    let b = c.weighted-2.result in
    let d = c.weighted-3.result in
    let ha = c.weighted.ensures.small in
    let hb = c.weighted-2.ensures.small in
    let hd = c.weighted-3.ensures.small in
    let ab = sum_small a b 274877906944 274877906944 ha hb in
    let abd = sum_small (a +ℤ b) d 549755813888 274877906944 ab hd in
    rw (stays a (omega (arith, ha)), stays b (omega (arith, hb)), stays d (omega (arith, hd)), stays (a +ℤ b) (omega (arith, ab))) (fits (a +ℤ b +ℤ d) (omega (arith, abd)))

pub overflow_add-sum-3 : goal.overflow_add-sum-3
overflow_add-sum-3 g c =
    let a = c.weighted.result in
    let b = c.weighted-2.result in
    let d = c.weighted-3.result in
    let e = c.weighted-4.result in
    let ha = c.weighted.ensures.small in
    let hb = c.weighted-2.ensures.small in
    let hd = c.weighted-3.ensures.small in
    let he = c.weighted-4.ensures.small in
    let ab = sum_small a b 274877906944 274877906944 ha hb in
    let abd = sum_small (a +ℤ b) d 549755813888 274877906944 ab hd in
    let abde = sum_small (a +ℤ b +ℤ d) e 824633720832 274877906944 abd he in
    rw (stays a (omega (arith, ha)), stays b (omega (arith, hb)), stays d (omega (arith, hd)), stays e (omega (arith, he)), stays (a +ℤ b) (omega (arith, ab)), stays (a +ℤ b +ℤ d) (omega (arith, abd)))
    (fits (a +ℤ b +ℤ d +ℤ e) (omega (arith, abde)))

pub from_ratio-requires-clause-sum_fits : goal.from_ratio-requires-clause-sum_fits
from_ratio-requires-clause-sum_fits g c =
    let ha = c.weighted.ensures.small in
    let hb = c.weighted-2.ensures.small in
    let hd = c.weighted-3.ensures.small in
    let he = c.weighted-4.ensures.small in
    let cut = cut_stays c.weighted.result c.weighted-2.result c.weighted-3.result c.weighted-4.result c.max.result
    c.weighted.ensures.small c.weighted-2.ensures.small c.weighted-3.ensures.small c.weighted-4.ensures.small
    (omega (arith, ints, c.max.type_inv)) c.max.ensures.value in
    let whole : to_z w64 (of_z w64 c.from.result) ≡ pos c.args.whole = stays c.from.result (omega (arith, ints, c.from.type_inv)) ∙ c.from.ensures in
    let sum = c.weighted.result +ℤ c.weighted-2.result +ℤ c.weighted-3.result +ℤ c.weighted-4.result in
    rw (cut, whole) (omega (arith, ints, int_max_is sum (pos 0), ha, hb, hd, he, c.requires.small))

pub returns : goal.returns
returns g c =
    let n = g.C.Channel.number in
    let first : to_z w64 (of_z w64 c.args.first.0) ≡ c.args.first.0 = stays c.args.first.0 (omega (arith, c.requires.first)) in
    let second : to_z w64 (of_z w64 c.args.second.0) ≡ c.args.second.0 = stays c.args.second.0 (omega (arith, c.requires.second)) in
    let third : to_z w64 (of_z w64 c.args.third.0) ≡ c.args.third.0 = stays c.args.third.0 (omega (arith, c.requires.third)) in
    let offset : to_z w64 (of_z w64 c.args.offset) ≡ c.args.offset = stays c.args.offset (omega (arith, c.requires.offset)) in
    let max : n c.MAX.result ≡ g.C.Channel.max = ap n c.MAX.ensures ∙ g.met.C.Channel.max_is_maximum in
    let cut = cut_stays c.weighted.result c.weighted-2.result c.weighted-3.result c.weighted-4.result c.max.result
    c.weighted.ensures.small c.weighted-2.ensures.small c.weighted-3.ensures.small c.weighted-4.ensures.small
    (omega (arith, ints, c.max.type_inv)) c.max.ensures.value in
    let whole : to_z w64 (of_z w64 c.from.result) ≡ pos c.args.whole = stays c.from.result (omega (arith, ints, c.from.type_inv)) ∙ c.from.ensures in
    let sum : c.weighted.result +ℤ c.weighted-2.result +ℤ c.weighted-3.result +ℤ c.weighted-4.result
    ≡ c.args.first.0 *ℤ pos (n c.args.first.1) +ℤ c.args.second.0 *ℤ pos (n c.args.second.1)
    +ℤ c.args.third.0 *ℤ pos (n c.args.third.1) +ℤ c.args.offset *ℤ pos g.C.Channel.max =
    rw (c.weighted.ensures.value, c.weighted-2.ensures.value, c.weighted-3.ensures.value, c.weighted-4.ensures.value, first, second, third, offset, max) refl in
    c.from_ratio.ensures.value ∙ nearest-same _ _ _ _ _ cut whole
    ∙ nearest-cut _ _ c.args.whole c.requires.positive
    ∙ nearest-same _ _ _ _ _ sum refl
