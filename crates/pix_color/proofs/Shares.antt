-- Red, green and blue of a hue by their shares of the chroma, which need no sixth of the hexcone.
use Rattle.std.proofs.Common.{◌≡◌, ℕ, zero, suc, ◌<◌, ◌≤◌, ◌+◌, ◌-◌, ◌*◌, ◌/◌, ◌%◌, ◌∙◌, [], ◌∷◌, refl, sym, ap, arith}
use Rattle.std.proofs.lemmas.Nat.{div_below}
use Rattle.std.proofs.Math.Nat.{div-add-mod', mod-lt}
use Rattle.pix_chan.specs.Number.{saturating_sum}
use Rattle.pix_chan.specs.Product.{channel_product, fineness, IsProduct}
use Rattle.pix_color.specs.Hexcone.{sixth, hexcone_of, rgb_of_hexcone, lifted_rgb, red_share, green_share, blue_share}

-- three products of a chroma and a share
abbrev shared : ℕ → ℕ → ℕ → ℕ × ℕ × ℕ
shared top p c = (channel_product top c (red_share top p), channel_product top c (green_share top p), channel_product top c (blue_share top p))

triple : (a b c d e f : ℕ) → a ≡ d → b ≡ e → c ≡ f → ◌≡◌ {A = ℕ × ℕ × ℕ} (a, b, c) (d, e, f)
triple a b c d e f ea eb ec = rw (ea, eb, ec) refl

-- of the whole chroma, of nothing, and of a part
whole : (top c x : ℕ) → channel_product top c top ≡ c → x ≡ top → c ≡ channel_product top c x
whole top c x all e = sym (ap (channel_product top c) e ∙ all)

nothing : (top c x : ℕ) → channel_product top c 0 ≡ 0 → x ≡ 0 → 0 ≡ channel_product top c x
nothing top c x none e = sym (ap (channel_product top c) e ∙ none)

part : (top c x w : ℕ) → x ≡ w → channel_product top c w ≡ channel_product top c x
part top c x w e = sym (ap (channel_product top c) e)

-- in each of the six parts, and at the end of the last
in_sixth : (s top w c p : ℕ) → s ≤ 6 → w < top → p ≡ s * top + w → p ≤ 6 * top → channel_product top c top ≡ c → channel_product top c 0 ≡ 0
    → rgb_of_hexcone top (sixth s w) c ≡ shared top p c
in_sixth zero top w c p hs hw ep hp all none =
    let e : p ≡ w = omega (arith, ep) in
    triple c _ 0 _ _ _ (whole top c (red_share top p) all (omega (arith, e, hw))) (part top c (green_share top p) w (omega (arith, e, hw)))
    (nothing top c (blue_share top p) none (omega (arith, e, hw)))
in_sixth (suc zero) top w c p hs hw ep hp all none =
    let e : p ≡ top + w = omega (arith, ep) in
    triple _ c 0 _ _ _ (part top c (red_share top p) (top - w) (omega (arith, e, hw))) (whole top c (green_share top p) all (omega (arith, e, hw)))
    (nothing top c (blue_share top p) none (omega (arith, e, hw)))
in_sixth (suc (suc zero)) top w c p hs hw ep hp all none =
    let e : p ≡ 2 * top + w = omega (arith, ep) in
    triple 0 c _ _ _ _ (nothing top c (red_share top p) none (omega (arith, e, hw))) (whole top c (green_share top p) all (omega (arith, e, hw)))
    (part top c (blue_share top p) w (omega (arith, e, hw)))
in_sixth (suc (suc (suc zero))) top w c p hs hw ep hp all none =
    let e : p ≡ 3 * top + w = omega (arith, ep) in
    triple 0 _ c _ _ _ (nothing top c (red_share top p) none (omega (arith, e, hw))) (part top c (green_share top p) (top - w) (omega (arith, e, hw)))
    (whole top c (blue_share top p) all (omega (arith, e, hw)))
in_sixth (suc (suc (suc (suc zero)))) top w c p hs hw ep hp all none =
    let e : p ≡ 4 * top + w = omega (arith, ep) in
    triple _ 0 c _ _ _ (part top c (red_share top p) w (omega (arith, e, hw))) (nothing top c (green_share top p) none (omega (arith, e, hw)))
    (whole top c (blue_share top p) all (omega (arith, e, hw)))
in_sixth (suc (suc (suc (suc (suc zero))))) top w c p hs hw ep hp all none =
    let e : p ≡ 5 * top + w = omega (arith, ep) in
    triple c 0 _ _ _ _ (whole top c (red_share top p) all (omega (arith, e, hw))) (nothing top c (green_share top p) none (omega (arith, e, hw)))
    (part top c (blue_share top p) (top - w) (omega (arith, e, hw)))
in_sixth (suc (suc (suc (suc (suc (suc zero)))))) top w c p hs hw ep hp all none =
    let e : p ≡ 6 * top + w = omega (arith, ep) in
    let start : w ≡ 0 = omega (arith, e, hp) in
    triple c _ 0 _ _ _ (whole top c (red_share top p) all (omega (arith, e, hw))) (part top c (green_share top p) w (omega (arith, e, start)))
    (nothing top c (blue_share top p) none (omega (arith, e, start)))
in_sixth (suc (suc (suc (suc (suc (suc (suc n))))))) top w c p hs hw ep hp all none = absurd (omega (arith, hs))

-- red, green and blue of a hue
by_shares : (top hue c : ℕ) → IsProduct fineness top (channel_product top) → hue ≤ top → c ≤ top
    → rgb_of_hexcone top (hexcone_of top hue) c ≡ shared top (6 * hue) c
by_shares top hue c laws hh hc =
    let some : 0 < top = laws.positive in
    let p = 6 * hue in
    let below : p / top < 7 = div_below p top 7 some (omega (arith, hh, some)) in
    let least : channel_product top 0 c ≤ 0 = laws.at_most_operand 0 c (omega arith) hc in
    in_sixth (p / top) top (p % top) c p (omega (arith, below)) (mod-lt p (omega (arith, some))) (sym (div-add-mod' p top)) (omega (arith, hh))
    (laws.identity c) (laws.commutes c 0 ∙ (let none : channel_product top 0 c ≡ 0 = omega (arith, least) in none))

pub lifted : (top hue c lift x y z : ℕ) → IsProduct fineness top (channel_product top) → hue ≤ top → c ≤ top
    → x ≡ saturating_sum top (channel_product top c (red_share top (6 * hue))) lift → y ≡ saturating_sum top (channel_product top c (green_share top (6 * hue))) lift
    → z ≡ saturating_sum top (channel_product top c (blue_share top (6 * hue))) lift
    → x ∷ y ∷ z ∷ [] ≡ lifted_rgb top hue c lift
lifted top hue c lift x y z laws hh hc ex ey ez =
    rw (ex, ey, ez) (ap (λ (t : ℕ × ℕ × ℕ). saturating_sum top t.0 lift ∷ saturating_sum top t.1 lift ∷ saturating_sum top t.2 lift ∷ []) (sym (by_shares top hue c laws hh hc)))
