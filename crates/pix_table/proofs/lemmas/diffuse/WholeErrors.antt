-- Error diffusion with whole errors, from left to right in each row: its formula in sixteenths.
use Rattle.std.proofs.Common.{◌≡◌, ℕ, ◌+◌, ◌-◌, ◌*◌, ◌/◌, min, List, slice_index, ap, arith, refl}
use Rattle.pix_table.specs.diffuse.Diffusion.{corrected, handed, rgb_of, wanted_at}
use Rattle.pix_table.specs.declared.diffuse.ScanOrder.TheVariants.{LeftToRight}

-- all terms are divided by 16, also where the difference stops at 0
in_sixteenths : (n w f : ℕ) → (256 * n + 128 + 16 * w - 16 * f) / 256 ≡ (16 * n + 8 + w - f) / 16
in_sixteenths n w f = omega arith

pub whole_corrected : (n w f : ℕ) → corrected 16 n w f ≡ min 255 ((16 * n + 8 + w - f) / 16)
whole_corrected n w f = ap (min 255) (in_sixteenths n w f)

-- the color that is wanted at a place
pub whole_wanted : (width : ℕ) (wanted found : List (List ℕ)) (first place : ℕ) (pixel : List ℕ)
    → wanted_at rgb_of LeftToRight 16 width wanted found first place pixel
    ≡ rgb_of (λ channel. min 255 ((16 * slice_index pixel channel + 8 + handed LeftToRight width wanted first place channel - handed LeftToRight width found first place channel) / 16))
whole_wanted width wanted found first place pixel =
    let same : (channel : ℕ) → corrected 16 (slice_index pixel channel) (handed LeftToRight width wanted first place channel) (handed LeftToRight width found first place channel)
    ≡ min 255 ((16 * slice_index pixel channel + 8 + handed LeftToRight width wanted first place channel - handed LeftToRight width found first place channel) / 16) =
    λ channel. whole_corrected (slice_index pixel channel) (handed LeftToRight width wanted first place channel) (handed LeftToRight width found first place channel) in
    rw (same 0, same 1, same 2) refl
