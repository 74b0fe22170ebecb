-- The channels of pixels that have one number each.
use Rattle.std.specs.List.{flat_map}
use Rattle.std.proofs.Common.{◌≡◌, ℕ, List, [], ◌∷◌, ◌++◌, map, get_or, refl, sym, ap, subst, ◌∙◌}
use Rattle.pix.specs.Indexing.{values, AreGray, AllEqual}

-- they are the gray values
pub gray_channels : {P : Type 0} (read : P → List ℕ) (pixels : List P) → map read pixels ≡ map (λ n. n ∷ []) (values read pixels)
    → flat_map read pixels ≡ values read pixels
gray_channels read [] h = refl
gray_channels read (p ∷ pixels) h =
    let head : read p ≡ get_or (read p) 0 0 ∷ [] = cc in
    let tail : map read pixels ≡ map (λ n. n ∷ []) (values read pixels) = cc in
    ap (λ l. l ++ flat_map read pixels) head ∙ ap (λ l. get_or (read p) 0 0 ∷ l) (gray_channels read pixels tail)

-- bytes and a table that come of equal entries have each pixel's color
pub exact_bytes : {P : Type 0} (read : P → List ℕ) (entries table colors : List (List ℕ)) (pixels : List P) (bytes : List ℕ)
    → AllEqual entries colors (values read pixels) → AreGray read pixels → table ≡ entries → bytes ≡ flat_map read pixels → AllEqual table colors bytes
exact_bytes read entries table colors pixels bytes h gray same_table same_bytes =
    subst (λ l. AllEqual l colors bytes) (sym same_table)
    (subst (AllEqual entries colors) (sym (same_bytes ∙ gray_channels read pixels gray.alone)) h)
