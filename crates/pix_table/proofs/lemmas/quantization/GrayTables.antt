-- A table of grays has the least squared error, where its parts have.
use Rattle.std.proofs.Common.{◌≡◌, ℕ, zero, suc, ◌+◌, ◌*◌, ◌<◌, ◌≤◌, List, [], ◌∷◌, length, get_or, map, sum_by, All, refl, arith, ap, sym, ◌∙◌}
use Rattle.std.proofs.lemmas.List.{length-map}
use Rattle.std.proofs.lemmas.List.Sums.{sum_by-cons}
use Rattle.std.proofs.lemmas.List.Elements.{All-cons, All-nil, All-head, All-tail, All-weaker, All-from_get_or}
use Rattle.pix_table.specs.matching.Nearest.{distance, numbers, squared_difference}
use Rattle.pix_table.specs.quantization.SquaredErrors.{least_distance, squared_error}
use Rattle.pix_table.specs.quantization.Grays.{AreGrays, IsGray, IsLeastTable}
use Rattle.pix_table.specs.quantization.Totals.{total}
use Rattle.pix_table.specs.quantization.GrayLevels.{AreLeast, AreLevelsOf, near}
use Rattle.pix_table.specs.declared.color.Color.{Color}
use Rattle.pix_table.proofs.lemmas.quantization.Totals.{at_most}
use Rattle.pix_table.proofs.lemmas.quantization.LevelLemmas.{added}
use Rattle.pix_table.proofs.lemmas.quantization.PartLemmas.{gray}
use Rattle.pix_table.proofs.lemmas.quantization.RefinedTables.{least_ge, least_le}

-- a sum over grays, by their red
gray_is : (c : Color) → IsGray (numbers c) → numbers c ≡ gray c.red
gray_is c h =
    let green : c.green ≡ c.red = h.0 in
    let blue : c.blue ≡ c.red = h.1 in
    rw (green, blue) refl

sum_of_grays : (f : List ℕ → ℕ) (colors : List Color) → AreGrays (map numbers colors) → sum_by f (map numbers colors) ≡ sum_by (λ (c : Color). f (gray c.red)) colors
sum_of_grays f [] all = refl
sum_of_grays f (c ∷ colors) all =
    sum_by-cons f (numbers c) (map numbers colors)
    ∙ added _ _ _ _ (ap f (gray_is c (All-head IsGray (numbers c) (map numbers colors) all))) (sum_of_grays f colors (All-tail IsGray (numbers c) (map numbers colors) all))
    ∙ sym (sum_by-cons (λ (k : Color). f (gray k.red)) c colors)

-- in each channel no entry is nearer to a level than the nearest number of the entries
channel : ℕ → List ℕ → List (List ℕ) → ℕ → ℕ
channel k e es v = near (get_or e k 0) (map (λ (f : List ℕ). get_or f k 0) es) v

near_first : (e : ℕ) (es : List ℕ) (v : ℕ) → near e es v ≤ squared_difference e v
near_first e [] v = omega arith
near_first e (f ∷ es) v = omega arith

near_each : (k : ℕ) (e : List ℕ) (es : List (List ℕ)) (v : ℕ) → All (λ (f : List ℕ). channel k e es v ≤ squared_difference (get_or f k 0) v) (e ∷ es)
unfolding channel
near_each k e [] v =
    All-cons (λ (f : List ℕ). channel k e [] v ≤ squared_difference (get_or f k 0) v) e [] (near_first (get_or e k 0) [] v)
    (All-nil (λ (f : List ℕ). channel k e [] v ≤ squared_difference (get_or f k 0) v))
near_each k e (p ∷ es) v =
    All-cons (λ (f : List ℕ). channel k e (p ∷ es) v ≤ squared_difference (get_or f k 0) v) e (p ∷ es)
    (near_first (get_or e k 0) (map (λ (f : List ℕ). get_or f k 0) (p ∷ es)) v)
    (All-weaker (λ (f : List ℕ). channel k p es v ≤ squared_difference (get_or f k 0) v) (λ (f : List ℕ). channel k e (p ∷ es) v ≤ squared_difference (get_or f k 0) v)
    (λ f h. omega arith) (p ∷ es) (near_each k p es v))

three_each : (e : List ℕ) (es : List (List ℕ)) (v : ℕ)
    → All (λ (f : List ℕ). channel 0 e es v + channel 1 e es v + channel 2 e es v ≤ distance f (gray v)) (e ∷ es)
three_each e es v = λ i d h. omega (arith, near_each 0 e es v i d h, near_each 1 e es v i d h, near_each 2 e es v i d h)

module _ (w x : ℕ → ℕ) (d : ℕ) where
  three_sums : (f g h : ℕ → ℕ) (n : ℕ) → total w x (λ v. f v + g v + h v) n ≡ total w x f n + total w x g n + total w x h n
  three_sums f g h zero = refl
  three_sums f g h (suc n) = omega (arith, three_sums f g h n)

  channel_least : (k room : ℕ) (f : ℕ → ℕ) → AreLeast w x d room f → (e : List ℕ) (es : List (List ℕ)) → length es < room → f d ≤ total w x (channel k e es) d
  unfolding channel
  channel_least k room f least e es h =
      least (get_or e k 0) (map (λ (c : List ℕ). get_or c k 0) es) d (omega arith) (omega (arith, length-map es (λ (c : List ℕ). get_or c k 0)))

  module _ (colors : List Color) (grays : AreGrays (map numbers colors)) (of : AreLevelsOf w x d colors) where
    error_is : (entries : List (List ℕ)) → squared_error entries (map numbers colors) ≡ total w x (λ v. least_distance entries (gray v)) d
    error_is entries = sum_of_grays (least_distance entries) colors grays ∙ of (λ v. least_distance entries (gray v))

    no_less : (room : ℕ) (f : ℕ → ℕ) → AreLeast w x d room f → (other : List (List ℕ)) → 0 < length other → length other ≤ room
        → 3 * f d ≤ squared_error other (map numbers colors)
    no_less room f least [] some few = absurd (omega arith)
    no_less room f least (e ∷ es) some few =
        let each : total w x (λ v. channel 0 e es v + channel 1 e es v + channel 2 e es v) d ≤ total w x (λ v. least_distance (e ∷ es) (gray v)) d =
        at_most w x (λ v. channel 0 e es v + channel 1 e es v + channel 2 e es v) (λ v. least_distance (e ∷ es) (gray v)) d
        (λ i h. least_ge distance (channel 0 e es (x i) + channel 1 e es (x i) + channel 2 e es (x i)) e es (gray (x i)) (three_each e es (x i))) in
        omega (
          arith,
          error_is (e ∷ es),
          each,
          three_sums (channel 0 e es) (channel 1 e es) (channel 2 e es) d,
          channel_least 0 room f least e es few,
          channel_least 1 room f least e es few,
          channel_least 2 room f least e es few,
        )

    -- so no table has a smaller error than one whose entries are the means of the parts
    pub is_least : (room : ℕ) (f : ℕ → ℕ) (table : List (List ℕ)) → AreLeast w x d room f → 0 < length table → length table ≤ room
        → ((g : ℕ → ℕ) → All (λ (e : List ℕ). (v : ℕ) → g v ≤ distance e (gray v)) table → total w x g d ≤ 3 * f d)
        → IsLeastTable room (map numbers colors) table
    is_least room f table least some many shown = record {
      some = some;
      many = many;
      least = λ other s m.
          let most : total w x (λ v. least_distance table (gray v)) d ≤ 3 * f d =
          shown (λ v. least_distance table (gray v))
          (All-from_get_or (λ (e : List ℕ). (v : ℕ) → least_distance table (gray v) ≤ distance e (gray v)) table [] (λ i h v. least_le distance table (gray v) i h)) in
          omega (arith, error_is table, most, no_less room f least other s m);
    }
