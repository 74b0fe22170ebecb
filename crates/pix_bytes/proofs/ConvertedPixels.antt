-- One pixel after the other is converted.
use Rattle.std.proofs.Common.{◌≡◌, ℕ, ◌≤◌, ◌+◌, ◌-◌, ◌*◌, List, length, slice_range, drop, sym, ap, ◌∙◌, arith, inl, inr}
use Rattle.std.proofs.lemmas.Bool.{cases_lt}
use Rattle.std.proofs.lemmas.Slice.{between_is, take-put_mid_below, between-put_mid}
use Rattle.std.proofs.Math.Nat.{mul-le-mul_right}
use borrow.Rule.Slice.PartMut.{put_mid}
use Rattle.std.specs.declared.ops.Range.{Range}
use Rattle.pix_chan.specs.Modes.{AlphaMode, GammaMode}
use Rattle.pix_el.specs.Conversion.{converted}
use Rattle.pix_bytes.specs.Formats.{BufferFormat, channels}
use Rattle.pix_bytes.specs.Converted.{IsConverted, pixel_at}

-- the format of bytes by what decides it
abbrev pub bytes_format : (count : ℕ) (hues colors : Range ℕ) (alpha kind : ℕ) → (ℕ → ℕ → ℕ → ℕ → List ℕ) → (ℕ → ℕ → ℕ → ℕ → List ℕ) → AlphaMode → GammaMode → BufferFormat
bytes_format count hues colors alpha kind to_rgb of_rgb alpha_mode gamma = record {
  format = record {
    layout = record { max = 255; count = count; hues = hues; alpha = alpha };
    kind = kind;
    colors = colors;
    to_rgb = to_rgb;
    of_rgb = of_rgb;
    alpha_mode = alpha_mode;
  };
  gamma = gamma;
}

-- no pixel is converted yet
pub converted_none : (from to : BufferFormat) (src dst : List ℕ) → IsConverted from to 0 src dst
converted_none from to src dst = record { each = λ index below. absurd (omega arith) }

-- a range below what was written stands as it did
range_below : (xs ys : List ℕ) (start end at wide : ℕ) → end ≤ at → at ≤ length xs → slice_range (put_mid at wide xs ys) start end ≡ slice_range xs start end
range_below xs ys start end at wide below within =
    between_is (put_mid at wide xs ys) start end
    ∙ ap (drop start) (take-put_mid_below at wide xs ys end below within)
    ∙ sym (between_is xs start end)

-- the next pixel was written
pub converted_more : (from to : BufferFormat) (src dst part : List ℕ) (index start wide : ℕ) → IsConverted from to index src dst
    → start ≡ index * channels to → wide ≡ channels to → start ≤ length dst → length part ≡ wide
    → part ≡ converted from.format from.gamma to.format to.gamma (pixel_at (channels from) src index)
    → IsConverted from to (index + 1) src (put_mid start wide dst part)
converted_more from to src dst part index start wide so_far at span within long new = record {
  each = λ k below. elim (cases_lt k index) [
    | inl before ↦
        let next : k * channels to + channels to ≡ (k + 1) * channels to = omega arith in
        let up : (k + 1) * channels to ≤ index * channels to = mul-le-mul_right (channels to) (let p : k + 1 ≤ index = omega arith in p) in
        range_below dst part (k * channels to) (k * channels to + channels to) start wide (omega arith) within ∙ so_far.each k before
    | inr past ↦
        let here : k ≡ index = omega arith in
        let end : k * channels to + channels to ≡ start + wide = rw here (omega arith) in
        let first : k * channels to ≡ start = rw here (sym at) in
        let size : length part ≡ start + wide - start = omega arith in
        rw (end, first) (between-put_mid start wide dst part (start + wide) within size) ∙ new ∙ ap (λ p. converted from.format from.gamma to.format to.gamma (pixel_at (channels from) src p)) (sym here)
  ];
}
