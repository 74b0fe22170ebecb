use Rattle.std.proofs.Common.{◌≡◌, ℕ, ◌+◌, ◌-◌, ◌*◌, ◌/◌, length, arith, refl, sym, ap, subst, ◌∙◌}
use Rattle.std.specs.Prelude.{min, max}
use Rattle.pix_scale.specs.Axis.{total, rounded_part}
use Rattle.pix_scale.specs.Signed.{reach, adds, takes, first_tap, first_near}
use Rattle.pix_scale.proofs.SignedWeights.{Used, used, used_is, used_row, near_row, rounded_whole}
use Rattle.pix_scale.proofs.signed_weights.weigh_signed.Goals as goal

pub both_parts-requires-clause-plus_fits : goal.both_parts-requires-clause-plus_fits
both_parts-requires-clause-plus_fits c =
    let u = used c.args.n c.args.m c.both_totals-added.result.1 c.saturating_sub-whole.result (sym c.is_used.ensures ∙ c.if-is_used.true) in
    let some = u.some in
    let more : total (length c.args.plus.now) (adds c.args.filter c.args.n c.args.m c.args.i c.first-start.result) ≡ c.both_totals-added.result.1 + c.saturating_sub-whole.result =
    omega (arith, c.both_totals-added.ensures.added, c.saturating_sub-whole.ensures, some) in
    omega (arith, ap (λ z. rounded_part z (2 * c.saturating_sub-whole.result)) more, rounded_whole c.both_totals-added.result.1 c.saturating_sub-whole.result some, u.few)

pub returns-then-is_used : goal.returns-then-is_used
returns-then-is_used c =
    let filter = c.args.filter in
    let places = c.args.places in
    let n = c.args.n in
    let m = c.args.m in
    let i = c.args.i in
    let first = c.first-start.result in
    let count = length c.args.plus.now in
    let taken = c.both_totals-added.result.1 in
    let whole = c.saturating_sub-whole.result in
    let e : first ≡ first_tap filter places n m i =
    c.first-start.ensures.value ∙ ap (λ z. min (places - z) (((2 * i + 1) * n + m - 2 * reach filter * max n m) / (2 * m))) c.requires.plus in
    let g : taken ≡ total count (takes filter n m i first) = c.both_totals-added.ensures.taken in
    let h : whole ≡ total count (adds filter n m i first) - total count (takes filter n m i first) =
    omega (arith, c.saturating_sub-whole.ensures, c.both_totals-added.ensures.added, g) in
    let w = used_is filter places n m i first count taken whole e c.requires.plus g h in
    let b = sym c.is_used.ensures ∙ c.if-is_used.true in
    used_row filter places n m i first count whole c.both_parts.new.plus c.both_parts.new.minus (sym w.1 ∙ b) e c.requires.plus w.0
    c.first-start.ensures.inside (subst (λ z. Used z whole) g (used n m taken whole b)) h c.both_parts.ensures.plus c.both_parts.ensures.minus

pub returns : goal.returns
returns c =
    let filter = c.args.filter in
    let places = c.args.places in
    let n = c.args.n in
    let m = c.args.m in
    let i = c.args.i in
    let first = c.first-start.result in
    let count = length c.args.plus.now in
    let taken = c.both_totals-added.result.1 in
    let whole = c.saturating_sub-whole.result in
    let place : ℕ = (2 * i + 1) * n / (2 * m) in
    let e : first ≡ first_tap filter places n m i =
    c.first-start.ensures.value ∙ ap (λ z. min (places - z) (((2 * i + 1) * n + m - 2 * reach filter * max n m) / (2 * m))) c.requires.plus in
    let g : taken ≡ total count (takes filter n m i first) = c.both_totals-added.ensures.taken in
    let h : whole ≡ total count (adds filter n m i first) - total count (takes filter n m i first) =
    omega (arith, c.saturating_sub-whole.ensures, c.both_totals-added.ensures.added, g) in
    let w = used_is filter places n m i first count taken whole e c.requires.plus g h in
    let b = sym c.is_used.ensures ∙ c.if-is_used.false in
    let near : c.min-near.result ≡ first_near filter places n m i = omega (arith, c.min-near.ensures, c.requires.plus) in
    near_row filter places c.args.size n m i c.min-near.result count place c.one_place.new.plus c.one_place.new.minus c.requires.side c.requires.i (sym w.1 ∙ b)
    near c.requires.plus refl c.one_place.ensures.plus c.one_place.ensures.minus
