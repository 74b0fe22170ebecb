-- A picture that is indexed exactly comes back when its indices are looked up.
use Rattle.std.specs.Prelude.{Result, Option, IfOk, IfSome, MatchOption, Ok, Err}
use Rattle.std.proofs.Common.{◌≡◌, ℕ, suc, ◌<◌, List, [], ◌∷◌, length, map, get_or, refl, sym, ap, ◌∙◌, arith, Some, None}
use Rattle.std.proofs.lemmas.List.{length-map}
use Rattle.pix_raster.specs.Image.{Image}
use Rattle.pix.specs.SetInTurn.{Setting, AreSet}
use Rattle.pix.specs.Setting.{IsSet, Always}
use Rattle.pix.specs.PaletteMatch.{color_difference}
use Rattle.pix.specs.Palette.{Color, numbers}
use Rattle.pix.specs.Indexing.{AllEqual}
use Rattle.pix.specs.ColorTable.{IsIndexedIn, IsLookedUp}

-- as many indices as pixels are set
sets_length : {C : Type 0} (read : C → List ℕ) (setting : Setting C) (greatest : ℕ) (old : List C) (pixels : List (List ℕ)) (indices : List ℕ) (new : List C)
    → AreSet read setting greatest old pixels indices new → length pixels ≡ length indices
sets_length read setting greatest old [] [] new h = refl
sets_length read setting greatest old (pixel ∷ pixels) (i ∷ indices) new h = ap suc (sets_length read setting greatest h.0 pixels indices new h.2)
sets_length read setting greatest old [] (i ∷ indices) new h = absurd h
sets_length read setting greatest old (pixel ∷ pixels) [] new h = absurd h

-- what is looked up of the indices of a picture whose pixels are their entries
back_of : {E S : Type 0} (result : Result (Option (Image Color)) E) (none : Type 0) (entries : List Color) (width height : ℕ) (indices : List ℕ) (f : S → List ℕ)
    (picture : List S) → length (map f picture) ≡ length indices → AllEqual (map numbers entries) (map f picture) indices
    → IfOk result (λ answer. MatchOption answer none (IsLookedUp entries width height indices))
    → IfOk result (λ answer. IfSome answer (λ again. (k : ℕ) → k < length picture
    → color_difference (get_or (map numbers again.pixels) k []) (get_or (map f picture) k []) ≡ 0 ∷ 0 ∷ 0 ∷ []))
back_of (Ok (Some image)) none entries width height indices f picture long equal h = λ k below.
    h.back (map f picture) equal long k (omega (arith, below, length-map picture f))
back_of (Ok None) none entries width height indices f picture long equal h = tt
back_of (Err e) none entries width height indices f picture long equal h = tt

pub back_of_indexed : {E S : Type 0} (result : Result (Option (Image Color)) E) (none : Type 0) (threshold : List ℕ) (limit : ℕ) (old new : List Color)
    (width height : ℕ) (indices : List ℕ) (f : S → List ℕ) (picture : List S) → IsIndexedIn threshold limit old (map f picture) (Some indices) new
    → threshold ≡ 0 ∷ 0 ∷ 0 ∷ [] → IfOk result (λ answer. MatchOption answer none (IsLookedUp new width height indices))
    → IfOk result (λ answer. IfSome answer (λ again. (k : ℕ) → k < length picture
    → color_difference (get_or (map numbers again.pixels) k []) (get_or (map f picture) k []) ≡ 0 ∷ 0 ∷ 0 ∷ []))
back_of_indexed result none threshold limit old new width height indices f picture h zero looked =
    back_of result none new width height indices f picture
    (sets_length numbers (IsSet numbers (Always threshold) limit) 255 old (map f picture) indices h.set h.indices) (h.equal zero) looked
