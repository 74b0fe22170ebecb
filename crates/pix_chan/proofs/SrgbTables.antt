-- The tables of 8 bits: all entries are tested, by computing.
use Rattle.std.proofs.Common.{◌≡◌, ℕ, ◌<◌, refl, true}
use Rattle.std.specs.Prelude.{slice_index_or}
use Rattle.pix_chan.specs.SrgbCurve.{IsNearestDecoded, IsNearestEncoded}
use Rattle.pix_chan.specs.declared.chan.srgb.TheConstants.{DECODE, ENCODE}
use Rattle.pix_chan.proofs.Entries.{each_from, each_at, is_nearest_decoded, nearest_decoded, is_nearest_encoded, nearest_encoded}

decoded_all : each_from (is_nearest_decoded 255) 0 DECODE ≡ true
decoded_all = refl

encoded_all : each_from (is_nearest_encoded 255) 0 ENCODE ≡ true
encoded_all = refl

pub decoded : (i n : ℕ) → n ≡ i → i < 256 → IsNearestDecoded 255 i (slice_index_or DECODE n 0)
decoded i n e lt = rw e (nearest_decoded 255 i (slice_index_or DECODE i 0) (each_at (is_nearest_decoded 255) DECODE decoded_all i lt))

pub encoded : (i n : ℕ) → n ≡ i → i < 256 → IsNearestEncoded 255 i (slice_index_or ENCODE n 0)
encoded i n e lt = rw e (nearest_encoded 255 i (slice_index_or ENCODE i 0) (each_at (is_nearest_encoded 255) ENCODE encoded_all i lt))
