use Rattle.std.proofs.Common.{◌≡◌, ◌∙◌, ℕ, zero, suc, ◌+◌, ◌*◌, ◌/◌, ◌<◌, ◌≤◌, min, Bool, true, false, refl, sym, ap, arith, inl, inr}
use Rattle.std.proofs.lemmas.Bool.{cases_lt}
use Rattle.std.proofs.lemmas.Nat.{div-mul-add}
use Rattle.pix_chan.specs.Product.{channel_product, channel_quotient}
use Rattle.pix_el.specs.Light.{mode_changed}
use Rattle.pix_bytes.specs.Rows.{alpha_mode_of}
use Rattle.pix_bytes.proofs.bitmap.pixel_conversion.mode_changed.Goals as goal

-- the quotient by the maximum is the channel
below_whole : (m x : ℕ) → x < suc m → channel_quotient (suc m) x (suc m) ≡ x
below_whole m x lt =
    let e : (suc m + 1) * x ≡ x * suc m + x = omega arith in
    ap (λ (n : ℕ). min (suc m) (n / suc m)) e ∙ ap (min (suc m)) (div-mul-add x (suc m) x lt) ∙ omega (arith, lt)

whole : (m : ℕ) → channel_quotient (suc m) (suc m) (suc m) ≡ suc m
whole m =
    let e : (suc m + 1) * suc m ≡ (suc m + 1) * suc m + 0 = omega arith in
    ap (λ (n : ℕ). min (suc m) (n / suc m)) e ∙ ap (min (suc m)) (div-mul-add (suc m + 1) (suc m) 0 (omega arith)) ∙ omega arith

by_whole : (max x : ℕ) → 0 < max → x ≤ max → channel_quotient max x max ≡ x
by_whole zero x some most = absurd (omega (arith, some))
by_whole (suc m) x some most = elim (cases_lt x (suc m)) [
  | inl lt ↦ below_whole m x lt
  | inr past ↦ let e : x ≡ suc m = omega (arith, past, most) in rw e (whole m)
]

opaque : (from to : Bool) (max x a : ℕ) → a ≡ max → 0 < max → x ≤ max → channel_product max x max ≡ x → x ≡ mode_changed max (alpha_mode_of from) (alpha_mode_of to) a x
opaque true true max x a e some most once = refl
opaque false false max x a e some most once = refl
opaque false true max x a e some most once = rw e (sym once)
opaque true false max x a e some most once = rw e (sym (by_whole max x some most))

pub returns-then-to_u32 : goal.returns-then-to_u32
returns-then-to_u32 g c =
    let max = g.C.Channel.max in
    let laws = g.met.C.Channel in
    let e : g.C.Channel.number c.args.alpha ≡ max =
    sym c.to_u32.ensures ∙ c.if-to_u32.true ∙ c.to_u32-else-from-to.ensures ∙ ap g.C.Channel.number c.MAX.ensures ∙ laws.max_is_maximum in
    opaque c.args.from c.args.to max (g.C.Channel.number c.args.c) (g.C.Channel.number c.args.alpha) e (omega (arith, laws.wide)) (laws.numbered.fits c.args.c) (laws.product_law.identity (g.C.Channel.number c.args.c))
