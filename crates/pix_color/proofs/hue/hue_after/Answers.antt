use Rattle.std.specs.Prelude.{pos}
use Rattle.std.proofs.Common.{◌≡◌, ℕ, zero, suc, ◌<◌, ◌≤◌, ◌+◌, ◌*◌, ◌/◌, ◌∙◌, sym, ap, arith, rules}
use Rattle.std.proofs.lemmas.Nat.{div_below}
use Rattle.std.proofs.Math.Nat.{div-zero, mul-div-mul_left, div-div-eq-div-mul}
use Rattle.pix_chan.specs.Nearest.{nearest}
use Rattle.pix_chan.proofs.Whole.{nearest_of_natural}
use Rattle.pix_color.specs.Hexcone.{hue_after}
use Rattle.pix_color.proofs.hue.hue_after.Goals as goal

-- six times both: the quotient that the hue is rounded by
sixfold : (n m : ℕ) → (2 * (255 * n) + 6 * suc m) / (2 * (6 * suc m)) ≡ (85 * n + suc m) / suc m / 2
sixfold n m =
    let above : 2 * (255 * n) + 6 * suc m ≡ 6 * (85 * n + suc m) = omega arith in
    let below : 2 * (6 * suc m) ≡ 6 * (suc m * 2) = omega arith in
    rw (above, below) (mul-div-mul_left (85 * n + suc m) (suc m * 2) (omega arith) ∙ sym (div-div-eq-div-mul (85 * n + suc m) (suc m) 2))

narrow_hue : (n c : ℕ) → n ≤ 6 * c → (85 * n + c) / c / 2 ≡ hue_after 255 n c
narrow_hue n zero h = ap (λ q. q / 2) (div-zero (85 * n + 0))
narrow_hue n (suc m) h =
    let most : (85 * n + suc m) / suc m < 512 = div_below (85 * n + suc m) (suc m) 512 (omega arith) (omega (arith, h)) in
    let hue : (85 * n + suc m) / suc m / 2 ≡ nearest 255 (pos (255 * n)) (pos (6 * suc m)) =
    nearest_of_natural 255 (255 * n) (6 * suc m) ((85 * n + suc m) / suc m / 2) (omega (arith, most, sixfold n m)) in
    search (rules, hue)

pub returns-then-max-eq255 : goal.returns-then-max-eq255
returns-then-max-eq255 g c =
    let narrow : g.C.Channel.max ≡ 255 = omega (arith, c.max.ensures.value, c.if-max-eq255.true) in
    c.exact.ensures ∙ ap (λ q. q / 2) c.quotient_by_byte.ensures ∙ narrow_hue c.args.n c.args.chroma c.requires.within
    ∙ ap (λ m. hue_after m c.args.n c.args.chroma) (sym narrow)

-- six times both, and half of the dividend first
sixfold_short : (n m : ℕ) → (2 * (65535 * n) + 6 * suc m) / (2 * (6 * suc m)) ≡ (21845 * n + suc m) / 2 / suc m
sixfold_short n m =
    let above : 2 * (65535 * n) + 6 * suc m ≡ 6 * (21845 * n + suc m) = omega arith in
    let below : 2 * (6 * suc m) ≡ 6 * (2 * suc m) = omega arith in
    rw (above, below) (mul-div-mul_left (21845 * n + suc m) (2 * suc m) (omega arith) ∙ sym (div-div-eq-div-mul (21845 * n + suc m) 2 (suc m)))

short_hue : (n c : ℕ) → n ≤ 6 * c → 0 < c → (21845 * n + c) / 2 / c ≡ hue_after 65535 n c
short_hue n zero h some = absurd (omega (arith, some))
short_hue n (suc m) h some =
    let most : (21845 * n + suc m) / 2 / suc m < 65536 = div_below ((21845 * n + suc m) / 2) (suc m) 65536 (omega arith) (omega (arith, h)) in
    let hue : (21845 * n + suc m) / 2 / suc m ≡ nearest 65535 (pos (65535 * n)) (pos (6 * suc m)) =
    nearest_of_natural 65535 (65535 * n) (6 * suc m) ((21845 * n + suc m) / 2 / suc m) (omega (arith, most, sixfold_short n m)) in
    search (rules, hue)

pub returns-then-max-eq65535 : goal.returns-then-max-eq65535
returns-then-max-eq65535 g c =
    let wide : g.C.Channel.max ≡ 65535 = omega (arith, c.max-else-chroma-eq0.ensures.value, c.if-max-eq65535.true) in
    c.exact-then-max-eq65535.ensures ∙ c.divided_short.ensures
    ∙ short_hue c.args.n c.args.chroma c.requires.within (omega (arith, c.if-chroma-eq0.false))
    ∙ ap (λ m. hue_after m c.args.n c.args.chroma) (sym wide)
