-- Entries that are chosen, and copies of them for lanes.
use Rattle.std.specs.Prelude.{min}
use Rattle.std.proofs.Common.{◌≡◌, ◌≢◌, ℕ, ◌+◌, ◌-◌, ◌*◌, ◌/◌, ◌%◌, ◌<◌, ◌≤◌, List, [], ◌∷◌, length, map, get_or, set, length-set, refl, ap, sym, ◌∙◌, subst, arith, inl, inr}
use Rattle.std.proofs.lemmas.Bool.{cases_lt}
use Rattle.std.proofs.lemmas.List.{get_or-map, get_or-set_same, get_or-set_other}
use Rattle.std.proofs.Math.Nat.{mul-le-mul}
use Rattle.pix_table.specs.matching.Nearest.{IsNearest, distance, distance_to, numbers, squared_difference}
use Rattle.pix_table.specs.threshold.ColorBlocks.{channels_at, channels_in}
use Rattle.pix_table.specs.matching.Lanes.{IsNearestLane, lane_distance, no_block}
use Rattle.pix_table.specs.matching.EntryLanes.{AreChosen, AreLanes, HasLane, blocks_for}
use Rattle.pix_table.specs.declared.color.Color.{Color}
use Rattle.pix_table.specs.declared.threshold.color_block.ColorBlock.{ColorBlock}
use Rattle.pix_table.specs.declared.matching.entry_lanes.EntryLanes.{EntryLanes}

-- how far a color is from one with the same channels
pub same_distance : (colors entries : List (List ℕ)) (color : List ℕ) (p k : ℕ) → channels_at colors p ≡ channels_at entries k
    → distance_to colors color p ≡ distance_to entries color k
same_distance colors entries color p k e = ap (λ c. distance c color) e

-- the entry in the nearest lane is the nearest entry
pub nearest_entry : (entries : List (List ℕ)) (lanes : EntryLanes) (blocks : List ColorBlock) (color : List ℕ) (p : ℕ) → AreLanes entries lanes
    → length blocks ≡ blocks_for lanes.len → ((k : ℕ) → k < blocks_for lanes.len → get_or blocks k no_block ≡ get_or lanes.blocks k no_block)
    → IsNearestLane (lane_distance (λ block i. distance (channels_in block i) color) no_block blocks) (16 * length blocks) p
    → IsNearest entries color (get_or lanes.indices p 0)
nearest_entry entries lanes blocks color p h long same near =
    let n : ℕ = 16 * blocks_for lanes.len in
    let all : 16 * length blocks ≡ n = ap (λ k. 16 * k) long in
    let far : (q : ℕ) → q < n → lane_distance (λ block i. distance (channels_in block i) color) no_block blocks q ≡ distance_to entries color (get_or lanes.indices q 0) =
    (λ q b.
    let inside : q / 16 < blocks_for lanes.len = omega arith in
    let block = h.blocks (q / 16) inside in
    let q_is : 16 * (q / 16) + q % 16 ≡ q = omega arith in
    ap (λ c. distance (channels_in c (q % 16)) color) (same (q / 16) inside)
    ∙ ap (λ c. distance c color) (block.each (q % 16) (omega arith) ∙ ap (channels_at h.colors) q_is ∙ h.filled.same q b)) in
    let inside : p < n = omega (arith, near.stands, all) in
    record {
      stands = h.filled.stands p inside;
      least = λ k b.
          let l = h.filled.whole k b in
          let e = far l.at l.below ∙ ap (λ c. distance c color) (sym (h.filled.same l.at l.below) ∙ l.same) in
          omega (arith, near.least l.at (omega (arith, l.below, all)), far p inside, e);
      first = λ k b.
          let stands : get_or lanes.indices p 0 < length entries = h.filled.stands p inside in
          let l = h.filled.whole k (omega arith) in
          let e = far l.at l.below ∙ ap (λ c. distance c color) (sym (h.filled.same l.at l.below) ∙ l.same) in
          elim (cases_lt l.at p) [
            | inl before ↦ omega (arith, near.first l.at before, far p inside, e)
            | inr behind ↦ absurd (omega (arith, h.filled.ordered p l.at behind l.below, l.before, b))
          ];
    }

-- what is read below a place that is written, and at it
pub set_below : {A : Type 0} (xs : List A) (n p : ℕ) (x d : A) → p < n → get_or (set xs n x) p d ≡ get_or xs p d
set_below xs n p x d b = get_or-set_other xs n p x d (λ e. absurd (omega arith))

pub set_there : {A : Type 0} (xs : List A) (n p : ℕ) (x d : A) → n < length xs → n ≡ p → get_or (set xs n x) p d ≡ x
set_there xs n p x d room e = ap (λ k. get_or (set xs n x) k d) (sym e) ∙ get_or-set_same xs n x d room

-- the channels of a color of a list of them
color_at : (colors : List Color) (p : ℕ) (d : Color) → p < length colors → get_or (map numbers colors) p [] ≡ numbers (get_or colors p d)
color_at colors p d b = get_or-map numbers colors p d [] b

channels_same : (colors others : List Color) (p q : ℕ) (d : Color) → p < length colors → q < length others → get_or colors p d ≡ get_or others q d
    → channels_at (map numbers colors) p ≡ channels_at (map numbers others) q
channels_same colors others p q d b c e =
    let same : get_or (map numbers colors) p [] ≡ get_or (map numbers others) q [] = color_at colors p d b ∙ ap numbers e ∙ sym (color_at others q d c) in
    ap (λ l. get_or l 0 0 ∷ get_or l 1 0 ∷ get_or l 2 0 ∷ []) same

-- the entries that are chosen of the first i, by indices below i
pub record AreCandidatesBelow (entries : List (List ℕ)) (i : ℕ) (colors : List Color) (indices : List ℕ) (n : ℕ) : Type 0 where
  pub chosen : AreChosen entries i (map numbers colors) indices n
  pub before : (p : ℕ) → p < n → get_or indices p 0 < i

pub none_chosen : (entries : List (List ℕ)) (colors : List Color) (indices : List ℕ) (n : ℕ) → n ≡ 0 → AreCandidatesBelow entries 0 colors indices n
none_chosen entries colors indices n e = record {
  chosen = record {
    stands = λ p b. absurd (omega arith);
    same = λ p b. absurd (omega arith);
    ordered = λ p q b c. absurd (omega arith);
    whole = λ k b. absurd (omega arith);
  };
  before = λ p b. absurd (omega arith);
}

abbrev black : Color
black = record { red = 0; green = 0; blue = 0 }

-- a lane that is there is there among more
lane_still : (entries : List (List ℕ)) (colors : List Color) (indices : List ℕ) (n x k : ℕ) (clr : Color) → n < length colors
    → HasLane entries (map numbers colors) indices n k → HasLane entries (map numbers (set colors n clr)) (set indices n x) (n + 1) k
lane_still entries colors indices n x k clr room l =
    let below : l.at < n = l.below in
    record {
      at = l.at;
      below = omega arith;
      before = omega (arith, l.before, set_below indices n l.at x 0 below);
      same =
          channels_same (set colors n clr) colors l.at l.at black (omega (arith, length-set colors n clr)) (omega arith) (set_below colors n l.at clr black below)
          ∙ l.same;
    }

-- entry i is chosen too
pub one_chosen : (entries : List (List ℕ)) (i : ℕ) (colors : List Color) (indices : List ℕ) (n : ℕ) (clr : Color) → n < length colors → n < length indices
    → i < length entries → numbers clr ≡ get_or entries i [] → AreCandidatesBelow entries i colors indices n
    → AreCandidatesBelow entries (i + 1) (set colors n clr) (set indices n i) (n + 1)
one_chosen entries i colors indices n clr room space stands is h =
    let new : List Color = set colors n clr in
    let long : length (set colors n clr) ≡ length colors = length-set colors n clr in
    let here : channels_at (map numbers (set colors n clr)) n ≡ channels_at entries i =
    (let e : get_or (map numbers (set colors n clr)) n [] ≡ get_or entries i [] =
    color_at (set colors n clr) n black (omega arith) ∙ ap numbers (set_there colors n n clr black room refl) ∙ is in
    ap (λ l. get_or l 0 0 ∷ get_or l 1 0 ∷ get_or l 2 0 ∷ []) e) in
    let index_there : get_or (set indices n i) n 0 ≡ i = set_there indices n n i 0 space refl in
    record {
      chosen = record {
        stands = λ p b. elim (cases_lt p n) [
          | inl c ↦ omega (arith, set_below indices n p i 0 c, h.chosen.stands p c)
          | inr c ↦ omega (arith, set_there indices n p i 0 space (omega arith))
        ];
        same = λ p b. elim (cases_lt p n) [
          | inl c ↦
              channels_same (set colors n clr) colors p p black (omega arith) (omega arith) (set_below colors n p clr black c)
              ∙ h.chosen.same p c ∙ ap (channels_at entries) (sym (set_below indices n p i 0 c))
          | inr c ↦
              let z : n ≡ p = omega arith in
              subst (λ q. channels_at (map numbers (set colors n clr)) q ≡ channels_at entries (get_or (set indices n i) q 0)) z
              (here ∙ ap (channels_at entries) (sym index_there))
        ];
        ordered = λ p q b c. elim (cases_lt q n) [
          | inl d ↦ omega (arith, set_below indices n p i 0 (omega arith), set_below indices n q i 0 d, h.chosen.ordered p q b d)
          | inr d ↦ elim (cases_lt p n) [
            | inl e ↦ omega (arith, set_below indices n p i 0 e, set_there indices n q i 0 space (omega arith), h.before p e)
            | inr e ↦ omega (arith, set_there indices n p i 0 space (omega arith), set_there indices n q i 0 space (omega arith))
          ]
        ];
        whole = λ k b. elim (cases_lt k i) [
          | inl c ↦ lane_still entries colors indices n i k clr room (h.chosen.whole k c)
          | inr c ↦
              let z : i ≡ k = omega arith in
              record { at = n; below = omega arith; before = omega (arith, index_there); same = here ∙ ap (channels_at entries) z }
        ];
      };
      before = λ p b. elim (cases_lt p n) [
        | inl c ↦ omega (arith, set_below indices n p i 0 c, h.before p c)
        | inr c ↦ omega (arith, set_there indices n p i 0 space (omega arith))
      ];
    }

-- numbers whose difference has the square 0 are equal
square_zero : (x y : ℕ) → squared_difference x y ≡ 0 → x ≡ y
square_zero x y e = elim (cases_lt 0 ((x - y) + (y - x))) [
  | inl b ↦
      let k : 1 * 1 ≤ ((x - y) + (y - x)) * ((x - y) + (y - x)) =
      mul-le-mul {n₁ = 1} {m₁ = 1} {n₂ = (x - y) + (y - x)} {m₂ = (x - y) + (y - x)} (omega arith) (omega arith) in
      absurd (omega (arith, k, e))
  | inr b ↦ omega arith
]

square_of_same : (x : ℕ) → squared_difference x x ≡ 0
square_of_same x = let z : (x - x) + (x - x) ≡ 0 = omega arith in rw z refl

-- colors with no distance have the same channels
zero_distance : (p q : List ℕ) → distance p q ≡ 0
    → get_or p 0 0 ∷ get_or p 1 0 ∷ get_or p 2 0 ∷ [] ≡ get_or q 0 0 ∷ get_or q 1 0 ∷ get_or q 2 0 ∷ []
zero_distance p q e =
    let red : get_or p 0 0 ≡ get_or q 0 0 = square_zero (get_or p 0 0) (get_or q 0 0) (omega (arith, e)) in
    let green : get_or p 1 0 ≡ get_or q 1 0 = square_zero (get_or p 1 0) (get_or q 1 0) (omega (arith, e)) in
    let blue : get_or p 2 0 ≡ get_or q 2 0 = square_zero (get_or p 2 0) (get_or q 2 0) (omega (arith, e)) in
    rw (red, green, blue) refl

distance_of_same : (p : List ℕ) → distance p p ≡ 0
distance_of_same p = omega (arith, square_of_same (get_or p 0 0), square_of_same (get_or p 1 0), square_of_same (get_or p 2 0))

-- entry i equals one before it, since that is the nearest to it
pub one_passed : (entries : List (List ℕ)) (i : ℕ) (colors : List Color) (indices : List ℕ) (n j : ℕ) (clr : Color) → i < length entries
    → numbers clr ≡ get_or entries i [] → IsNearest entries (numbers clr) j → j ≢ i → AreCandidatesBelow entries i colors indices n
    → AreCandidatesBelow entries (i + 1) colors indices n
one_passed entries i colors indices n j clr stands is near other h =
    let own : distance_to entries (numbers clr) i ≡ 0 = ap (λ l. distance l (numbers clr)) (sym is) ∙ distance_of_same (numbers clr) in
    let least : distance_to entries (numbers clr) j ≡ 0 = omega (arith, near.least i stands, own) in
    let before : j < i = elim (cases_lt i j) [
      | inl b ↦ absurd (omega (arith, near.first i b, own))
      | inr b ↦ elim (cases_lt j i) [
        | inl c ↦ c
        | inr c ↦ absurd (other (omega arith))
      ]
    ] in
    let same : channels_at entries j ≡ channels_at entries i =
    zero_distance (get_or entries j []) (numbers clr) least ∙ ap (λ l. get_or l 0 0 ∷ get_or l 1 0 ∷ get_or l 2 0 ∷ []) is in
    let l = h.chosen.whole j before in
    record {
      chosen = record {
        stands = h.chosen.stands;
        same = h.chosen.same;
        ordered = h.chosen.ordered;
        whole = λ k b. elim (cases_lt k i) [
          | inl c ↦ h.chosen.whole k c
          | inr c ↦
              let z : i ≡ k = omega arith in
              record { at = l.at; below = l.below; before = omega (arith, l.before, before, z); same = l.same ∙ same ∙ ap (channels_at entries) z }
        ];
      };
      before = λ p b. omega (arith, h.before p b);
    }

-- of the places behind the first n the last one of those is copied to each
pub record IsFilled (colors more : List Color) (indices others : List ℕ) (n : ℕ) : Type 0 where
  pub colors_before : (p : ℕ) (d : Color) → p < n → get_or more p d ≡ get_or colors p d
  pub indices_before : (p : ℕ) → p < n → get_or others p 0 ≡ get_or indices p 0
  pub colors_behind : (p : ℕ) (d : Color) → n ≤ p → p < 256 → get_or more p d ≡ get_or colors (n - 1) d
  pub indices_behind : (p : ℕ) → n ≤ p → p < 256 → get_or others p 0 ≡ get_or indices (n - 1) 0

-- what stands at a place stood at the same place or at the last one
record IsCopied (colors more : List Color) (indices others : List ℕ) (n p : ℕ) : Type 0 where
  at : ℕ
  is : at ≡ min p (n - 1)
  color : get_or more p black ≡ get_or colors at black
  index : get_or others p 0 ≡ get_or indices at 0

is_copied : (colors more : List Color) (indices others : List ℕ) (n p : ℕ) → 0 < n → p < 256 → IsFilled colors more indices others n
    → IsCopied colors more indices others n p
is_copied colors more indices others n p some few h = elim (cases_lt p n) [
  | inl b ↦ record { at = p; is = omega arith; color = h.colors_before p black b; index = h.indices_before p b }
  | inr b ↦ record { at = n - 1; is = omega arith; color = h.colors_behind p black b few; index = h.indices_behind p b few }
]

pub filled_chosen : (entries : List (List ℕ)) (m : ℕ) (colors more : List Color) (indices others : List ℕ) (n count : ℕ) → 0 < n → n ≤ count → count ≤ 256
    → length colors ≡ 256 → length more ≡ 256 → IsFilled colors more indices others n
    → AreChosen entries m (map numbers colors) indices n → AreChosen entries m (map numbers more) others count
filled_chosen entries m colors more indices others n count some enough few long other filled h =
    let copied : (p : ℕ) → p < count → IsCopied colors more indices others n p = (λ p b. is_copied colors more indices others n p some (omega arith) filled) in
    let same : (p : ℕ) (b : p < count) → channels_at (map numbers more) p ≡ channels_at (map numbers colors) (copied p b).at =
    (λ p b. let c = copied p b in channels_same more colors p c.at black (omega arith) (omega (arith, c.is)) c.color) in
    record {
      stands = λ p b. let c = copied p b in omega (arith, c.index, h.stands c.at (omega (arith, c.is)));
      same = λ p b.
          let c = copied p b in
          same p b ∙ h.same c.at (omega (arith, c.is)) ∙ ap (channels_at entries) (sym c.index);
      ordered = λ p q b e.
          let c = copied p (omega arith) in
          let d = copied q e in
          omega (arith, c.index, d.index, h.ordered c.at d.at (omega (arith, c.is, d.is)) (omega (arith, d.is)));
      whole = λ k b.
          let l = h.whole k b in
          let below : l.at < n = l.below in
          record {
            at = l.at;
            below = omega arith;
            before = omega (arith, l.before, filled.indices_before l.at below);
            same =
                channels_same more colors l.at l.at black (omega arith) (omega arith) (filled.colors_before l.at black below)
                ∙ l.same;
          };
    }
