-- Pixels that were matched to entries. No clause of a public call cites this file.
use Rattle.std.specs.Prelude.{ℕ, All, List}
use Rattle.pix_table.specs.matching.Nearest.{IsNearestBy}
use Rattle.pix_table.specs.SeenPixels.{seen, seen_distance}
use Rattle.pix_table.specs.quantization.SeenGroups.{seen_key_numbers}
use Rattle.pix_table.specs.declared.rgba.matched.MatchedPixel.{MatchedPixel}

-- each of some pixels, by their keys, has the index of the entry that is seen nearest to it, the first of equals
abbrev pub AreMatchedPixels : (entries : List (List ℕ)) → List MatchedPixel → Type 0
AreMatchedPixels entries places = All (λ p. IsNearestBy seen_distance entries (seen (seen_key_numbers p.key)) p.index) places
