use Rattle.std.proofs.Common.{◌≡◌, ◌<◌, ◌∙◌, ℕ, List, [], ◌∷◌, length, take, get_or, replicate, bit_or, ap, refl, sym, arith}
use lib.Lanes.{zip2}
use Rattle.std.proofs.lemmas.List.{take_all}
use Rattle.pix_chan.proofs.LaneTests.{lane_is}
use Rattle.pix_bytes.proofs.bitmap.rgba_light.are_opaque.Goals as goal

abbrev full : List ℕ
full = replicate 16 255

abbrev colors : List ℕ
colors = 255 ∷ 255 ∷ 255 ∷ 0 ∷ 255 ∷ 255 ∷ 255 ∷ 0 ∷ 255 ∷ 255 ∷ 255 ∷ 0 ∷ 255 ∷ 255 ∷ 255 ∷ 0 ∷ []

-- an alpha, where all bytes are 255 with those of the colors set
alpha : (bytes : List ℕ) (k : ℕ) → length bytes ≡ 16 → k < 16 → get_or colors k 0 ≡ 0 → get_or full k 0 ≡ 255
    → zip2 bit_or (take 16 bytes) colors ≡ full → get_or bytes k 0 ≡ 255
alpha bytes k long h none here all =
    let whole : take 16 bytes ≡ bytes = take_all 16 bytes (omega (arith, long)) in
    ap (λ (l : List ℕ). get_or l k 0) (sym whole) ∙ lane_is (take 16 bytes) colors k 255 (ap length whole ∙ long) refl h none all here

pub returns : goal.returns
returns c =
    let long = c.requires in
    record {
      three = λ same. alpha c.args.bytes.now 3 long (omega arith) refl refl (c.are_full.ensures same);
      seven = λ same. alpha c.args.bytes.now 7 long (omega arith) refl refl (c.are_full.ensures same);
      eleven = λ same. alpha c.args.bytes.now 11 long (omega arith) refl refl (c.are_full.ensures same);
      fifteen = λ same. alpha c.args.bytes.now 15 long (omega arith) refl refl (c.are_full.ensures same);
    }
