-- Each index has an entry that represents its color.
use Rattle.std.proofs.Common.{◌≡◌, ℕ, zero, suc, ◌<◌, ◌≤◌, true, List, [], ◌∷◌, length, map, get_or, refl, arith, sym, ◌∙◌, subst, inl, inr, Some, None, Option}
use Rattle.std.proofs.lemmas.Bool.Decides.{nat_tests}
use Rattle.pix_table.specs.threshold.PaletteMatch.{color_difference, is_within}
use Rattle.pix_table.specs.threshold.Setting.{Fits, StandsFor, IsSet, Always}
use Rattle.pix_table.specs.threshold.Indexing.{AreSet}
use Rattle.pix_table.proofs.lemmas.threshold.Settings.{Grows, grows_none, grows_trans, set_grows, set_stands, entry_stays, longer, match_below}
use Rattle.pix_palette.specs.Palette.{Color, numbers, Answers}
use Rattle.pix_raster.specs.Image.{Image}
use Rattle.pix_palette.specs.ColorTable.{IsIndexedIn}
use Rattle.pix_palette.specs.Indexing.{AreGray, IsIndexed, Represents, AllRepresented, AllEqual, values}

represents_stays : (answers : ℕ → List ℕ → Type 0) (old new : List Color) (color : List ℕ) (i : ℕ) → Grows old new
    → Represents answers (map numbers old) color i → Represents answers (map numbers new) color i
represents_stays answers old new color i g h =
    let l : length (map numbers old) ≤ length (map numbers new) = longer numbers old new g in
    record {
      stands = (let s : i < length (map numbers old) = h.stands in omega arith);
      count = h.count;
      asked = (let s : h.count ≤ length (map numbers old) = h.asked in omega arith);
      fits = subst (λ entry. Fits answers h.count (color_difference entry color) true) (sym (entry_stays numbers old new i g h.stands)) h.fits;
    }

-- the entry at the index of a color that is set represents it
pub set_represents : (answers : ℕ → List ℕ → Type 0) (limit : ℕ) (old : List Color) (color : Color) (i : ℕ) (new : List Color)
    → IsSet numbers answers limit old color (Some i) new → Represents answers (map numbers new) (numbers color) i
set_represents answers limit old color i new h =
    let stands : StandsFor answers (map numbers new) (numbers color) (Some i) = set_stands numbers answers limit old color i new h in
    record {
      stands = match_below (map numbers new) (numbers color) i stands.match;
      count = length (map numbers new);
      asked = omega arith;
      fits = stands.within;
    }

-- setting colors keeps the entries
sets_grow : (answers : ℕ → List ℕ → Type 0) (limit greatest : ℕ) (old : List Color) (pixels : List (List ℕ)) (indices : List ℕ) (new : List Color)
    → AreSet numbers (IsSet numbers answers limit) greatest old pixels indices new → Grows old new
sets_grow answers limit greatest old [] [] new h = grows_none old new h
sets_grow answers limit greatest old (pixel ∷ pixels) (i ∷ indices) new h =
    grows_trans old h.0 new (set_grows numbers answers limit old h.1.0 (Some i) h.0 h.1.2) (sets_grow answers limit greatest h.0 pixels indices new h.2)
sets_grow answers limit greatest old [] (i ∷ indices) new h = absurd h
sets_grow answers limit greatest old (pixel ∷ pixels) [] new h = absurd h

-- the entry at an index represents its pixel
represented_at : (answers : ℕ → List ℕ → Type 0) (limit greatest : ℕ) (old : List Color) (pixels : List (List ℕ)) (indices : List ℕ) (new : List Color)
    → AreSet numbers (IsSet numbers answers limit) greatest old pixels indices new
    → (k : ℕ) → k < length pixels → Represents answers (map numbers new) (get_or pixels k []) (get_or indices k 0)
represented_at answers limit greatest old [] indices new h k below = absurd (omega arith)
represented_at answers limit greatest old (pixel ∷ pixels) (i ∷ indices) new h zero below =
    represents_stays answers h.0 new pixel i (sets_grow answers limit greatest h.0 pixels indices new h.2)
    (subst (λ p. Represents answers (map numbers h.0) p i) h.1.1 (set_represents answers limit old h.1.0 i h.0 h.1.2))
represented_at answers limit greatest old (pixel ∷ pixels) (i ∷ indices) new h (suc k) below =
    represented_at answers limit greatest h.0 pixels indices new h.2 k (omega arith)
represented_at answers limit greatest old (pixel ∷ pixels) [] new h k below = absurd h

pub all_represented : (answers : ℕ → List ℕ → Type 0) (limit greatest : ℕ) (old : List Color) (pixels : List (List ℕ)) (indices : List ℕ) (new : List Color)
    → AreSet numbers (IsSet numbers answers limit) greatest old pixels indices new → AllRepresented answers (map numbers new) pixels indices
all_represented answers limit greatest old pixels indices new h = record { each = represented_at answers limit greatest old pixels indices new h }

zero_only : (x y z : ℕ) → is_within (x ∷ y ∷ z ∷ []) (0 ∷ 0 ∷ 0 ∷ []) ≡ true → x ∷ y ∷ z ∷ [] ≡ 0 ∷ 0 ∷ 0 ∷ []
zero_only x y z h =
    let red : x ≡ 0 = grind (arith, nat_tests) in
    let green : y ≡ 0 = grind (arith, nat_tests) in
    let blue : z ≡ 0 = grind (arith, nat_tests) in
    rw (red, green, blue) refl

-- only a threshold of 0 is answered
abbrev pub OnlyZero : (ℕ → List ℕ → Type 0) → Type 0
OnlyZero answers = (count : ℕ) (threshold : List ℕ) → answers count threshold → threshold ≡ 0 ∷ 0 ∷ 0 ∷ []

fits_zero : (answers : ℕ → List ℕ → Type 0) → OnlyZero answers → (count : ℕ) (p q : List ℕ) → Fits answers count (color_difference p q) true
    → color_difference p q ≡ 0 ∷ 0 ∷ 0 ∷ []
fits_zero answers only count p q (inl both) = both.0
fits_zero answers only count p q (inr asked) =
    zero_only _ _ _ (subst (λ t. is_within (color_difference p q) t ≡ true) (only count asked.0 asked.1) asked.2)

-- then that entry is the pixel
pub all_equal : (answers : ℕ → List ℕ → Type 0) → OnlyZero answers → (entries : List (List ℕ)) (pixels : List (List ℕ)) (indices : List ℕ)
    → AllRepresented answers entries pixels indices → AllEqual entries pixels indices
all_equal answers only entries pixels indices h = record {
  each = λ k below. fits_zero answers only (h.each k below).count (get_or entries (get_or indices k 0) []) (get_or pixels k []) (h.each k below).fits;
}

-- where no threshold function was set, only 0 is
none_zero : {F : Type 0} (post : F → ℕ → Color → Type 0) (function : Option F) → function ≡ None → OnlyZero (Answers post function)
none_zero post None e = λ count threshold h. h
none_zero post (Some f) e = absurd (cc)

-- an image whose gray values are the indices of all colors
pub all_indexed : {F P : Type 0} (post : F → ℕ → Color → Type 0) (function : Option F) (limit greatest : ℕ) (read : P → List ℕ) (width height : ℕ)
    (pixels : List (List ℕ)) (old : List Color) (image : Image P) (new : List Color) → image.width ≡ width → image.height ≡ height
    → AreSet numbers (IsSet numbers (Answers post function) limit) greatest old pixels (values read image.pixels) new → AreGray read image.pixels
    → IsIndexed post function limit greatest read width height pixels old (Some image) new
all_indexed post function limit greatest read width height pixels old image new wide high set gray =
    let represented : AllRepresented (Answers post function) (map numbers new) pixels (values read image.pixels) = all_represented _ _ _ _ _ _ _ set in
    record {
      indices = set;
      gray = gray;
      size = (wide, high);
      represented = represented;
      equal = λ e. all_equal (Answers post function) (none_zero post function e) (map numbers new) pixels (values read image.pixels) represented;
    }

-- pixels that are all indexed in a table
pub all_in : (threshold : List ℕ) (limit : ℕ) (old : List Color) (pixels : List (List ℕ)) (indices : List ℕ) (set new : List Color)
    → AreSet numbers (IsSet numbers (Always threshold) limit) 255 old pixels indices set → new ≡ set → IsIndexedIn threshold limit old pixels (Some indices) new
all_in threshold limit old pixels indices set new h e =
    let represented : AllRepresented (Always threshold) (map numbers new) pixels indices =
    subst (λ l. AllRepresented (Always threshold) (map numbers l) pixels indices) (sym e) (all_represented (Always threshold) limit 255 old pixels indices set h) in
    record {
      set = set;
      indices = h;
      entries = e;
      represented = represented;
      equal = λ zero. all_equal (Always threshold) (λ count t is. is ∙ zero) (map numbers new) pixels indices represented;
    }
