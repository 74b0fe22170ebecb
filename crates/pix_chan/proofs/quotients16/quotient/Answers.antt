use Rattle.std.proofs.Common.{◌≡◌, ◌*◌, ◌/◌, ◌%◌, ◌<◌, ◌∙◌, ℕ, ap, arith, min, get_or}
use Rattle.pix_chan.specs.Product.{channel_quotient}
use Rattle.pix_chan.specs.declared.quotients16.TheConstants.{RECIPROCALS}
use Rattle.pix_chan.proofs.Reciprocals16.{quotient_is, cut}
use Rattle.pix_chan.proofs.quotients16.quotient.Goals as goal

pub returns-then-y-byte : goal.returns-then-y-byte
returns-then-y-byte c =
    let b : ℕ = c.args.y % 256 in
    let r : ℕ = c.reciprocal.result in
    let whole : 257 * b ≡ c.args.y = omega (arith, c.if-y-byte.true) in
    let read : r ≡ get_or RECIPROCALS b 0 = c.reciprocal.ensures.value ∙ ap (λ (k : ℕ). get_or RECIPROCALS k 0) c.from-then-y-byte.ensures in
    c.min.ensures ∙ ap (λ (x : ℕ). min (x * r / 4294967296) 65535) c.from.ensures
    ∙ quotient_is c.args.x b r c.ranges.x.fits (omega arith) read
    ∙ ap (channel_quotient 65535 c.args.x) whole

pub returns : goal.returns
returns c =
    let x : ℕ = c.args.x in
    let some : 0 < c.args.y = omega (arith, c.if-y-byte.false) in
    let wide : c.from-2.result * 65536 % 4294967296 ≡ 65536 * x = omega (arith, c.from-2.ensures, c.ranges.x.fits) in
    c.min-2.ensures
    ∙ ap (λ (n : ℕ). min (n / c.from-3.result) 65535) wide
    ∙ ap (λ (n : ℕ). min (65536 * x / n) 65535) c.from-3.ensures
    ∙ cut x c.args.y some
