-- Rasters without points: no size of one is refused, and no table of one has an entry.
use Rattle.std.proofs.Common.{◌≡◌, ℕ, ◌*◌, ◌≤◌, ◌<◌, None, List, [], ◌∷◌, length, map, take, nat_lt, false, refl, arith, ap, sym, inl, inr, ◌∙◌, if◌then◌else◌}
use Rattle.std.proofs.lemmas.Bool.{le-ltb}
use Rattle.std.proofs.lemmas.List.{length-map, length-take}
use Rattle.pix_table.specs.quantization.SeenTables.{IsQuantizedRgba, distinct_pixels}
use Rattle.pix_raster.specs.Region.{limit}
use Rattle.pix_raster.specs.Sizes.{size_fault}

pub sized : (width height : ℕ) → width ≤ limit → height ≤ limit → height * width ≡ 0 → size_fault width height ≡ None
sized width height wide high none =
    let few : width * height ≤ limit = omega (arith, none) in
    rw (le-ltb limit width wide, le-ltb limit height high, le-ltb limit (width * height) few) refl

none_made : (rounds room : ℕ) (pixels table : List (List ℕ)) → length pixels ≡ 0 → IsQuantizedRgba rounds room pixels table → length table ≡ 0
none_made rounds room [] table none (inl h) = ap length h.1
none_made rounds room [] table none (inr h) = absurd (omega (arith, h.0))
none_made rounds room (p ∷ pixels) table none h = absurd (omega (arith, none))

-- so of the entries that were written none is an entry of the table
pub none_written : {X Y : Type 0} (f : X → List ℕ) (g : Y → List ℕ) (rounds room n : ℕ) (pixels : List X) (entries : List Y) → length pixels ≡ 0 → n ≤ length entries
    → IsQuantizedRgba rounds room (map f pixels) (map g (take n entries)) → n ≡ 0
none_written f g rounds room n pixels entries none within made =
    omega (
      arith,
      none_made rounds room (map f pixels) (map g (take n entries)) (length-map pixels f ∙ none) made,
      length-map (take n entries) g,
      length-take n entries,
      within,
    )
