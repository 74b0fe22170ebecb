-- A channel of eight bits is its number. No public clause cites this file.
use Rattle.std.specs.Prelude.{◌≡◌, ℕ, ◌<◌}
use Rattle.std.specs.Coded.{le_prop}
use Rattle.std.proofs.Common.{ap, arith}
use mathlib.Core.HLevel.{Σ_prop_path}
use Rattle.pix_chan.specs.declared.chan.bits8.Ch8.{Ch8}
use Rattle.pix_chan.specs.Channel.{IsNumbered}

ch8_injective : (x y : Ch8) → x.value ≡ y.value → x ≡ y
ch8_injective x y e =
    ap (λ (p : (v : ℕ) × v < 256). let c : Ch8 = record { value = p.0; fits = p.1 } in c)
    (Σ_prop_path {B = λ v. v < 256} (λ _. le_prop) {u = (x.value, x.fits)} {v = (y.value, y.fits)} e)

pub ch8_numbered : IsNumbered 255 (λ (c : Ch8). c.value)
ch8_numbered = record { fits = λ x. omega (arith, x.fits); injective = ch8_injective }
