-- Of `mesh`: the clauses `low` and `high`.
use Rattle.std.proofs.Common.{◌≡◌, ◌∙◌, ◌++◌, ◌*◌, ◌^◌, ◌%◌, ap, length, List, ℕ, w8, Fits, replicate, bit_or}
use lib.Lanes.{Each1, pick_l, zip2, digits_l, number_l}
use Rattle.std.specs.List.{range_with_len}
use Rattle.pix_chan.proofs.Planes.{mesh_words, mesh_bytes, meshed, front, back}
use Rattle.pix_chan.proofs.chan.bits8.planes.mesh.Goals as goal

abbrev words : List ℕ → List ℕ → List ℕ
words a b = zip2 bit_or (digits_l 65536 8 (number_l 256 a)) (zip2 (λ (x y : ℕ). x * 2 ^ y % 2 ^ 32) (digits_l 65536 8 (number_l 256 b)) (replicate 8 16))

module _ (a b : List ℕ) (i : length a ≡ 16) (j : length b ≡ 16) (f : Each1 (Fits w8) a) (g : Each1 (Fits w8) b) where
  bytes : digits_l 256 32 (number_l 4294967296 (words a b)) ≡ meshed (pick_l 0 (a ++ b) (range_with_len 0 16)) (pick_l 0 (a ++ b) (range_with_len 16 16))
  bytes =
      ap (λ (w : List ℕ). digits_l 256 32 (number_l 4294967296 w)) (mesh_words 8 a b i j f g)
      ∙ mesh_bytes 8 a b i j f g
      ∙ ap (λ (l : List ℕ). meshed l b) (front 16 a b i)
      ∙ ap (meshed (pick_l 0 (a ++ b) (range_with_len 0 16))) (back 16 a b i j)

pub returns-clause-low : goal.returns-clause-low
returns-clause-low c = ap (λ (l : List ℕ). pick_l 0 l (range_with_len 0 16)) (bytes c.args.a c.args.b c.fits-a.0 c.fits-b.0 c.fits-a.1 c.fits-b.1)

pub returns-clause-high : goal.returns-clause-high
returns-clause-high c = ap (λ (l : List ℕ). pick_l 0 l (range_with_len 16 16)) (bytes c.args.a c.args.b c.fits-a.0 c.fits-b.0 c.fits-a.1 c.fits-b.1)
