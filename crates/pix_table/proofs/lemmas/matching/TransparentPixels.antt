-- Pixels whose alphas are all below one.
use Rattle.std.proofs.Common.{◌≡◌, ℕ, ◌<◌, Bool, true, List, [], ◌∷◌, length, map, replicate, get_or, refl, inl, arith, ap, ◌∙◌}
use Rattle.std.proofs.lemmas.List.{length-map, length-replicate, get_or-map, get_or-replicate}
use Rattle.pix_table.specs.packing.LookUp.{all_below}
use Rattle.pix_table.specs.matching.Nearest.{alpha_of, AreMatched}
use Rattle.pix_table.proofs.Below.{each_below}

-- the alpha of a pixel of a list
pub alpha_at : {X : Type 0} (f : X → List ℕ) (xs : List X) (i : ℕ) (d : X) → i < length xs
    → get_or (map alpha_of (map f xs)) i 0 ≡ alpha_of (f (get_or xs i d))
alpha_at f xs i d inside =
    get_or-map alpha_of (map f xs) i (f d) 0 (omega (arith, inside, length-map xs f)) ∙ ap alpha_of (get_or-map f xs i d (f d) inside)

pub many_alphas : {X : Type 0} (f : X → List ℕ) (xs : List X) → length (map alpha_of (map f xs)) ≡ length xs
many_alphas f xs = length-map (map f xs) alpha_of ∙ length-map xs f

-- where they are all below, the transparent index is that of each
pub all_transparent : (entries : List (List ℕ)) (alpha transparent_index : ℕ) (pixels : List (List ℕ)) (indices : List ℕ) (n : ℕ) → n ≡ length pixels
    → indices ≡ replicate n transparent_index → all_below alpha (map alpha_of pixels) ≡ true → AreMatched entries alpha transparent_index pixels indices
all_transparent entries alpha transparent_index pixels indices n many are below =
    let long : length indices ≡ n = ap length are ∙ length-replicate n transparent_index in
    record {
      many = long ∙ many;
      each = λ k inside.
          let here : get_or (map alpha_of pixels) k 0 ≡ alpha_of (get_or pixels k []) = get_or-map alpha_of pixels k [] 0 inside in
          let less : get_or (map alpha_of pixels) k 0 < alpha =
          each_below alpha (map alpha_of pixels) below k (omega (arith, inside, length-map pixels alpha_of)) in
          inl (omega (arith, here, less), ap (λ l. get_or l k 0) are ∙ get_or-replicate n k transparent_index 0 (omega (arith, inside, many)));
    }
