-- Images of the nearest entries, and of the entries of indices.
use Rattle.std.specs.Prelude.{slice_get, unwrap_or}
use Rattle.std.specs.Option.{option_map}
use Rattle.std.proofs.Common.{◌≡◌, ℕ, zero, suc, ◌<◌, List, [], ◌∷◌, length, map, get_or, refl, arith, sym, ap, ◌∙◌, subst}
use Rattle.std.proofs.lemmas.List.{length-map}
use Rattle.pix_table.specs.matching.Nearest.{IsNearest}
use Rattle.pix_table.specs.packing.LookUp.{AreLookedUp}
use Rattle.pix_table.specs.threshold.PaletteMatch.{color_difference}
use Rattle.pix_raster.specs.Image.{Image}
use Rattle.pix_palette.specs.Palette.{Color, numbers}
use Rattle.pix_palette.specs.Indexing.{AllEqual, AreGray, values}
use Rattle.pix_palette.specs.ColorTable.{IsMapped, IsLookedUp}

pub mapped : {P S : Type 0} (read : P → List ℕ) (entries entries' : List (List ℕ)) (width height : ℕ) (f : S → List ℕ) (ps ps' : List S) (image : Image P)
    → image.width ≡ width → image.height ≡ height → ps' ≡ ps → entries' ≡ entries → AreGray read image.pixels
    → ((k : ℕ) → k < length ps' → IsNearest entries' (get_or (map f ps') k []) (get_or (values read image.pixels) k 0))
    → IsMapped read entries width height (map f ps) image
mapped read entries entries' width height f ps ps' image w h e t gray near = record {
  wide = w;
  high = h;
  gray = gray;
  nearest = λ k below.
      subst (λ l. IsNearest l (get_or (map f ps) k []) (get_or (values read image.pixels) k 0)) t
      (subst (λ l. IsNearest entries' (get_or (map f l) k []) (get_or (values read image.pixels) k 0)) e
      (near k (omega (arith, below, length-map ps f, ap length e))));
}

-- an element of a list of images, by the element
get_map : {C D : Type 0} (f : C → D) (xs : List C) (k : ℕ) (d : D) → get_or (map f xs) k d ≡ unwrap_or (option_map f (slice_get xs k)) d
get_map f [] k d = refl
get_map f (x ∷ xs) zero d = refl
get_map f (x ∷ xs) (suc k) d = get_map f xs k d

same_element : {C D : Type 0} (f : C → D) (xs ys : List C) (j k : ℕ) (d : D) → slice_get xs j ≡ slice_get ys k → get_or (map f xs) j d ≡ get_or (map f ys) k d
same_element f xs ys j k d e = get_map f xs j d ∙ ap (λ o. unwrap_or (option_map f o) d) e ∙ sym (get_map f ys k d)

looked_back : (entries : List Color) (indices : List ℕ) (colors : List Color) → AreLookedUp entries indices colors → (pixels : List (List ℕ))
    → AllEqual (map numbers entries) pixels indices → length pixels ≡ length indices → (k : ℕ) → k < length pixels
    → color_difference (get_or (map numbers colors) k []) (get_or pixels k []) ≡ 0 ∷ 0 ∷ 0 ∷ []
looked_back entries indices colors h pixels equal long k below =
    ap (λ c. color_difference c (get_or pixels k []))
    (same_element numbers colors entries k (get_or indices k 0) [] (h.each k (omega (arith, below, long))))
    ∙ equal.each k below

pub looked_up : (entries entries' : List Color) (width height : ℕ) (indices indices' : List ℕ) (image : Image Color) → image.width ≡ width → image.height ≡ height
    → entries' ≡ entries → indices' ≡ indices → AreLookedUp entries' indices' image.pixels → IsLookedUp entries width height indices image
looked_up entries entries' width height indices indices' image w h e f found =
    let colors : AreLookedUp entries indices image.pixels =
    subst (λ l. AreLookedUp l indices image.pixels) e (subst (λ l. AreLookedUp entries' l image.pixels) f found) in
    record { wide = w; high = h; colors = colors; back = looked_back entries indices image.pixels colors }
