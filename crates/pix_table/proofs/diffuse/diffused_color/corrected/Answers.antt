-- Of `corrected`: the number, where the sum is too small, too great, and neither.
use Rattle.std.proofs.Common.{◌≡◌, ℕ, ◌+◌, ◌-◌, ◌*◌, ◌/◌, ◌<◌, ◌≤◌, min, arith, sym, ap, subst}
use Rattle.pix_table.proofs.diffuse.diffused_color.corrected.Goals as goal

-- the same rest, with the errors and with the colors
rest : (s t n m h w f : ℕ) → t ≡ s → m ≡ n → h + f ≡ 4080 + w → 256 * m + 128 + t * h - t * 4080 ≡ 256 * n + 128 + s * w - s * f
rest s t n m h w f e d all =
    let products : s * (h + f) ≡ s * (4080 + w) = ap (λ x. s * x) all in
    subst (λ x. 256 * m + 128 + x * h - x * 4080 ≡ 256 * n + 128 + s * w - s * f) (sym e) (omega (arith, products, d))

too_small : (x y : ℕ) → x ≡ 0 → x ≡ y → 0 ≡ min 255 (y / 256)
too_small x y none e = omega arith

too_great : (x y : ℕ) → 255 < x / 256 → x ≡ y → 255 ≡ min 255 (y / 256)
too_great x y more e = omega arith

neither : (x y : ℕ) → x / 256 ≤ 255 → x ≡ y → x / 256 ≡ min 255 (y / 256)
neither x y few e = omega arith

pub returns-then-sum-nothing : goal.returns-then-sum-nothing
returns-then-sum-nothing c = λ w f e.
    too_small _ _ (omega (arith, c.if-sum-nothing.true))
    (rest c.args.strength c.from-strength.result c.args.number c.from.result c.args.handed w f c.from-strength.ensures c.from.ensures e)

pub returns-then-rounded-gt255 : goal.returns-then-rounded-gt255
returns-then-rounded-gt255 c = λ w f e.
    too_great _ _ (omega (arith, c.if-rounded-gt255.true))
    (rest c.args.strength c.from-strength.result c.args.number c.from.result c.args.handed w f c.from-strength.ensures c.from.ensures e)

pub returns-else-rounded-gt255 : goal.returns-else-rounded-gt255
returns-else-rounded-gt255 c = λ w f e.
    neither _ _ (omega (arith, c.if-rounded-gt255.false))
    (rest c.args.strength c.from-strength.result c.args.number c.from.result c.args.handed w f c.from-strength.ensures c.from.ensures e)
