-- A channel of sixteen bits is its number. No public clause cites this file.
use Rattle.std.specs.Prelude.{◌≡◌, ℕ, ◌<◌}
use Rattle.std.specs.Coded.{le_prop}
use Rattle.std.proofs.Common.{ap, arith}
use mathlib.Core.HLevel.{Σ_prop_path}
use Rattle.pix_chan.specs.declared.chan.bits16.Ch16.{Ch16}
use Rattle.pix_chan.specs.Channel.{IsNumbered}

ch16_injective : (x y : Ch16) → x.value ≡ y.value → x ≡ y
ch16_injective x y e =
    ap (λ (p : (v : ℕ) × v < 65536). let c : Ch16 = record { value = p.0; fits = p.1 } in c)
    (Σ_prop_path {B = λ v. v < 65536} (λ _. le_prop) {u = (x.value, x.fits)} {v = (y.value, y.fits)} e)

pub ch16_numbered : IsNumbered 65535 (λ (c : Ch16). c.value)
ch16_numbered = record { fits = λ x. omega (arith, x.fits); injective = ch16_injective }
