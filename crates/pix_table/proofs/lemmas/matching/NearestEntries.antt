-- The nearest entry, one entry after the other.
use Rattle.std.proofs.Common.{◌≡◌, ℕ, ◌+◌, ◌<◌, ◌≤◌, List, length, get_or, refl, arith, subst, inl, inr}
use Rattle.std.proofs.lemmas.Bool.{cases_lt, cases_order}
use Rattle.pix_table.specs.matching.Nearest.{distance_to, IsNearest, IsFirst, numbers}
use Rattle.pix_table.specs.declared.color.Color.{Color}

-- among the first i entries none is nearer than `at`, none before it is as near, and `least` is how
-- far it is
pub record IsNearestBelow (entries : List (List ℕ)) (color : List ℕ) (i at least : ℕ) : Type 0 where
  pub stands : at < length entries
  pub same : least ≡ distance_to entries color at
  pub none_nearer : (k : ℕ) → k < i → least ≤ distance_to entries color k
  pub first : (k : ℕ) → k < at → least < distance_to entries color k

-- before all entries it is the first
pub nearest_at_first : (entries : List (List ℕ)) (color : List ℕ) (least : ℕ) → 0 < length entries → least ≡ distance_to entries color 0
    → IsNearestBelow entries color 0 0 least
nearest_at_first entries color least some e = record {
  stands = some;
  same = e;
  none_nearer = λ k below. absurd (omega arith);
  first = λ k below. absurd (omega arith);
}

-- with one entry more it is that entry if it is nearer, and else stays
pub nearest_changes : (entries : List (List ℕ)) (color : List ℕ) (i at least next : ℕ) → IsNearestBelow entries color i at least
    → i < length entries → next ≡ distance_to entries color i → next < least → IsNearestBelow entries color (i + 1) i next
nearest_changes entries color i at least next h stands e nearer = record {
  stands = stands;
  same = e;
  none_nearer = λ k below. elim (cases_lt k i) [
    | inl b ↦ omega (arith, h.none_nearer k b)
    | inr b ↦ let z : i ≡ k = omega arith in subst (λ j. next ≤ distance_to entries color j) z (omega (arith, e))
  ];
  first = λ k below. omega (arith, h.none_nearer k below);
}

pub nearest_stays : (entries : List (List ℕ)) (color : List ℕ) (i at least next : ℕ) → IsNearestBelow entries color i at least
    → next ≡ distance_to entries color i → least ≤ next → IsNearestBelow entries color (i + 1) at least
nearest_stays entries color i at least next h e farther = record {
  stands = h.stands;
  same = h.same;
  none_nearer = λ k below. elim (cases_lt k i) [
    | inl b ↦ h.none_nearer k b
    | inr b ↦ let z : i ≡ k = omega arith in subst (λ j. least ≤ distance_to entries color j) z (omega (arith, e))
  ];
  first = h.first;
}

-- among all entries it is the nearest
pub nearest_of_all : (entries : List (List ℕ)) (color : List ℕ) (i at least : ℕ) → i ≡ length entries → IsNearestBelow entries color i at least
    → IsNearest entries color at
nearest_of_all entries color i at least e h = record {
  stands = h.stands;
  least = λ k below. omega (arith, h.same, h.none_nearer k (omega arith));
  first = λ k below. omega (arith, h.same, h.first k below);
}

-- the nearest to a color that stands is its first entry
pub nearest_of_first : (entries : List (List ℕ)) (color : List ℕ) (at i : ℕ) → IsNearest entries color at → IsFirst entries color i → at ≡ i
nearest_of_first entries color at i h f =
    let zero : distance_to entries color at ≡ 0 = omega (arith, h.least i f.stands, f.same) in
    elim (cases_order at i) [
      | inl e ↦ e
      | inr o ↦ elim o [
        | inl b ↦ absurd (f.first at b zero)
        | inr b ↦ absurd (omega (arith, h.first i b, f.same))
      ]
    ]

-- a pixel of the same channels has the same nearest entry
pub same_channels : (entries : List (List ℕ)) (clr : Color) (pixel : List ℕ) (at : ℕ) → clr.red ≡ get_or pixel 0 0 → clr.green ≡ get_or pixel 1 0
    → clr.blue ≡ get_or pixel 2 0 → IsNearest entries (numbers clr) at → IsNearest entries pixel at
same_channels entries clr pixel at red green blue h =
    let same : (k : ℕ) → distance_to entries (numbers clr) k ≡ distance_to entries pixel k = (λ k. rw (red, green, blue) refl) in
    record {
      stands = h.stands;
      least = λ k below. omega (arith, h.least k below, same k, same at);
      first = λ k below. omega (arith, h.first k below, same k, same at);
    }
