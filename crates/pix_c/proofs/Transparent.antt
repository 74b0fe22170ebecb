-- Error diffusion of pixels that are all transparent.
use Rattle.std.proofs.Common.{◌≡◌, ℕ, zero, suc, ◌+◌, ◌%◌, ◌<◌, ◌≤◌, true, List, [], ◌∷◌, ◌++◌, length, map, get_or, refl, arith, sym, ap, ◌∙◌, subst, inl, inr, length-append}
use Rattle.std.proofs.lemmas.Bool.{cases_lt}
use Rattle.std.proofs.lemmas.Bool.Decides.{nat_tests}
use Rattle.std.proofs.lemmas.List.{length-map, get_or-map, get_or_append_left, get_or_push}
use Rattle.pix_table.specs.matching.Nearest.{distance, alpha_of, AreMatched}
use Rattle.pix_table.specs.diffuse.ErrorBound.{IsErrorBound}
use Rattle.pix_table.specs.packing.LookUp.{all_below}
use Rattle.pix_table.specs.diffuse.Diffusion.{AreDiffusedBy, AreShownAround, IsDiffused, none, clear, in_picture, rgb_of}
use Rattle.pix_table.specs.declared.diffuse.ScanOrder.{ScanOrder}
use Rattle.pix_table.specs.declared.diffuse.ScanOrder.TheVariants.{LeftToRight, Serpentine}
use Rattle.pix_c.specs.Table.{are_rows}
use Rattle.pix_table.proofs.Below.{each_below}
use Rattle.pix_table.proofs.lemmas.diffuse.ScanOrders.{in_picture_below}

-- rows that can be scanned have a pixel, and are whole where they turn
pub rows_whole : (scan : ScanOrder) (pixels width work indices : ℕ) → are_rows pixels width scan work indices ≡ true → (0 < width) × (scan ≡ Serpentine → pixels % width ≡ 0)
rows_whole LeftToRight pixels width work indices h = (grind (arith, nat_tests), λ e. cc)
rows_whole Serpentine pixels width work indices h = (grind (arith, nat_tests), λ e. grind (arith, nat_tests))

-- the alpha of each pixel is below one
pub each_alpha : (alpha : ℕ) (pixels : List (List ℕ)) → all_below alpha (map alpha_of pixels) ≡ true → (k : ℕ) → k < length pixels → alpha_of (get_or pixels k []) < alpha
each_alpha alpha pixels below k inside =
    let less : get_or (map alpha_of pixels) k 0 < alpha = each_below alpha (map alpha_of pixels) below k (omega (arith, inside, length-map pixels alpha_of)) in
    omega (arith, less, get_or-map alpha_of pixels k [] 0 inside)

-- each of them has the transparent index
pub each_index : (entries : List (List ℕ)) (alpha transparent_index : ℕ) (pixels : List (List ℕ)) (indices : List ℕ) → all_below alpha (map alpha_of pixels) ≡ true
    → AreMatched entries alpha transparent_index pixels indices → (k : ℕ) → k < length pixels → get_or indices k 0 ≡ transparent_index
each_index entries alpha transparent_index pixels indices below matched k inside = elim (matched.each k inside) [
  | inl h ↦ h.1
  | inr h ↦ absurd (omega (arith, h.0, each_alpha alpha pixels below k inside))
]

-- the first pixels of a scan, each of which has the transparent index
pub record AreClear (scan : ScanOrder) (bound strength : ℕ) (entries : List (List ℕ)) (alpha transparent_index width : ℕ) (pixels : List (List ℕ)) (n : ℕ) : Type 0 where
  pub wanted : List (List ℕ)
  pub found : List (List ℕ)
  pub along : List ℕ
  pub diffused : IsDiffused rgb_of distance scan bound strength entries alpha transparent_index width pixels wanted found along
  pub many : length along ≡ n
  pub each : (k : ℕ) → k < n → get_or along k 0 ≡ transparent_index

module _ (scan : ScanOrder) (bound strength : ℕ) (entries : List (List ℕ)) (alpha transparent_index width : ℕ) (pixels : List (List ℕ)) where
  abbrev Clear : ℕ → Type 0
  Clear n = AreClear scan bound strength entries alpha transparent_index width pixels n

  -- one pixel more
  one_more : (n : ℕ) → alpha_of (get_or pixels (in_picture scan width n) []) < alpha → Clear n → Clear (n + 1)
  one_more n below h = record {
    wanted = h.wanted ++ rgb_of (λ channel. 0) ∷ [];
    found = h.found ++ rgb_of (λ channel. 0) ∷ [];
    along = h.along ++ transparent_index ∷ [];
    diffused = clear h.wanted h.found h.along h.diffused
        (subst (λ m. alpha_of (get_or pixels (in_picture scan width m) []) < alpha) (sym h.many) below);
    many = omega (arith, length-append h.along (transparent_index ∷ []), h.many);
    each = λ k inside. elim (cases_lt k n) [
      | inl b ↦ get_or_append_left h.along (transparent_index ∷ []) 0 k (omega (arith, h.many)) ∙ h.each k b
      | inr b ↦
          let e : n ≡ k = omega arith in
          subst (λ i. get_or (h.along ++ transparent_index ∷ []) i 0 ≡ transparent_index) e (get_or_push h.along transparent_index 0 n h.many)
    ];
  }

  -- so many pixels
  all_clear : 0 < width → (scan ≡ Serpentine → length pixels % width ≡ 0) → all_below alpha (map alpha_of pixels) ≡ true → (n : ℕ) → n ≤ length pixels → Clear n
  all_clear some whole below zero within = record {
    wanted = [];
    found = [];
    along = [];
    diffused = none;
    many = refl;
    each = λ k inside. absurd (omega arith);
  }
  all_clear some whole below (suc n) within =
      let less : n < length pixels = omega arith in
      let here : alpha_of (get_or pixels (in_picture scan width n) []) < alpha =
      each_alpha alpha pixels below (in_picture scan width n) (in_picture_below scan width (length pixels) n some less whole) in
      subst Clear (let e : n + 1 ≡ suc n = omega arith in e) (one_more n here (all_clear some whole below n (omega arith)))

-- entries that there are none of have the least bound
no_step : (entries : List (List ℕ)) → length entries ≡ 0 → IsErrorBound entries 24
no_step entries empty = record {
  least = omega arith;
  wide = λ channel low high few step. absurd (omega (arith, step.low_is.1, empty));
  reached = inl refl;
}

-- pixels that are all transparent are diffused to no entry where each has the transparent index
pub transparent_diffused : (scan : ScanOrder) (strength : ℕ) (entries : List (List ℕ)) (alpha transparent_index width : ℕ) (pixels : List (List ℕ)) (indices : List ℕ) → length entries ≡ 0
    → 0 < width → (scan ≡ Serpentine → length pixels % width ≡ 0) → all_below alpha (map alpha_of pixels) ≡ true
    → AreMatched entries alpha transparent_index pixels indices → AreDiffusedBy scan strength entries alpha transparent_index width pixels indices
transparent_diffused scan strength entries alpha transparent_index width pixels indices empty some whole below matched =
    let h : AreClear scan 24 strength entries alpha transparent_index width pixels (length pixels) =
    all_clear scan 24 strength entries alpha transparent_index width pixels some whole below (length pixels) (omega arith) in
    record {
      bound = 24;
      is_bound = no_step entries empty;
      wanted = h.wanted;
      found = h.found;
      along = h.along;
      diffused = h.diffused;
      whole = h.many;
      many = matched.many;
      each = λ k inside.
          each_index entries alpha transparent_index pixels indices below matched (in_picture scan width k)
          (in_picture_below scan width (length pixels) k some inside whole)
          ∙ sym (h.each k inside);
    }

-- and each is shown as such
pub transparent_shown : (entries : List (List ℕ)) (alpha transparent_index : ℕ) (pixels : List (List ℕ)) (indices : List ℕ) → all_below alpha (map alpha_of pixels) ≡ true
    → AreMatched entries alpha transparent_index pixels indices → AreShownAround entries alpha transparent_index pixels indices
transparent_shown entries alpha transparent_index pixels indices below matched =
    λ k inside. inl (each_alpha alpha pixels below k inside, each_index entries alpha transparent_index pixels indices below matched k inside)
