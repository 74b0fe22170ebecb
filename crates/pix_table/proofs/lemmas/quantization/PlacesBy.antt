-- The best of the places of a box of colors of any number of channels, one place after the other.
use Rattle.std.proofs.Common.{◌⊎◌, ◌≡◌, ℕ, ◌+◌, ◌<◌, ◌≤◌, List, Option, Some, None, arith, sym, subst, inl, inr, refl}
use Rattle.std.proofs.lemmas.Bool.{cases_lt}
use Rattle.pix_table.specs.quantization.Places.{IsBefore}
use Rattle.pix_table.specs.quantization.BestPlaces.{CanCutBy, IsBestBeforeBy, IsBestUpToBy}
use Rattle.pix_table.specs.declared.quantization.place.Place.{Place}

-- the places before the next one: those before this one, and this one
before_next : (c w k v : ℕ) → IsBefore c w k (v + 1) → IsBefore c w k v ⊎ ((c ≡ k) × (w ≡ v))
before_next c w k v h = elim h [
  | inl b ↦ inl (inl b)
  | inr b ↦ elim (cases_lt w v) [
    | inl s ↦ inl (inr (b.0, s))
    | inr s ↦ let e : w ≡ v = omega (arith, b.1, s) in inr (b.0, e)
  ]
]

before_more : (c w k v : ℕ) → IsBefore c w k v → IsBefore c w k (v + 1)
before_more c w k v h = elim h [
  | inl b ↦ inl b
  | inr b ↦ let s : w < v + 1 = omega (arith, b.1) in inr (b.0, s)
]

-- what holds of a place holds of the same place
at_same : (P : ℕ → ℕ → Type 0) (c w k v : ℕ) → c ≡ k → w ≡ v → P k v → P c w
at_same P c w k v e f h = subst (λ i. P i w) (sym e) (subst (λ j. P k j) (sym f) h)

-- colors of so many channels, where it is known what a cut at each place gains
module _ (n : ℕ) (gains_at : ℕ → ℕ → List (List ℕ) → ℕ) where
  can_same : (box : List (List ℕ)) (c w k v : ℕ) → c ≡ k → w ≡ v → CanCutBy n box c w → CanCutBy n box k v
  can_same box c w k v e f h = at_same (λ i j. CanCutBy n box i j) k v c w (sym e) (sym f) h

  -- the best so far stays where the next is no better
  pub kept_by : (box : List (List ℕ)) (k v : ℕ) (old : Place) → IsBestBeforeBy n gains_at box k v old → (CanCutBy n box k v → gains_at k v box ≤ old.gain)
      → IsBestBeforeBy n gains_at box k (v + 1) old
  kept_by box k v old h next = record {
    before = before_more _ _ k v h.before;
    cut = h.cut;
    gains = h.gains;
    best = λ c w before can. elim (before_next c w k v before) [
      | inl b ↦ h.best c w b can
      | inr e ↦ at_same (λ i j. gains_at i j box ≤ old.gain) c w k v e.0 e.1 (next (can_same box c w k v e.0 e.1 can))
    ];
    first = h.first;
  }

  -- a place that is better than all before it is the best
  pub taken_by : (box : List (List ℕ)) (p : Place) → CanCutBy n box p.channel p.value → gains_at p.channel p.value box ≡ p.gain
      → ((c w : ℕ) → IsBefore c w p.channel p.value → CanCutBy n box c w → gains_at c w box < p.gain) → IsBestBeforeBy n gains_at box p.channel (p.value + 1) p
  taken_by box p can gains before = record {
    before = let s : p.value < p.value + 1 = omega arith in inr (refl, s);
    cut = can;
    gains = gains;
    best = λ c w b also. elim (before_next c w p.channel p.value b) [
      | inl earlier ↦ let less : gains_at c w box < p.gain = before c w earlier also in omega (arith, less)
      | inr e ↦ at_same (λ i j. gains_at i j box ≤ p.gain) c w p.channel p.value e.0 e.1 (omega (arith, gains))
    ];
    first = before;
  }

  -- a place is passed by where an earlier one has the same gain
  pub passing : (box : List (List ℕ)) (k v : ℕ) (best : Option Place) → IsBestUpToBy n gains_at box k v best
      → (CanCutBy n box k v → (w : ℕ) × (w < v) × CanCutBy n box k w × (gains_at k v box ≡ gains_at k w box)) → IsBestUpToBy n gains_at box k (v + 1) best
  passing box k v None h same = λ c w before can. elim (before_next c w k v before) [
    | inl b ↦ h c w b can
    | inr e ↦ let s = same (can_same box c w k v e.0 e.1 can) in h k s.0 (inr (refl, s.1)) s.2
  ]
  passing box k v (Some old) h same = kept_by box k v old h (λ can.
      let s = same can in
      let less : gains_at k s.0 box ≤ old.gain = h.best k s.0 (inr (refl, s.1)) s.2 in
      omega (arith, less, s.3))

  -- where the box can be cut at no place of a channel from m on, the best before m is that of the whole channel
  earlier : (box : List (List ℕ)) (k m : ℕ) → ((v : ℕ) → m ≤ v → CanCutBy n box k v → ⊥) → (c w : ℕ) → IsBefore c w (k + 1) 0 → CanCutBy n box c w
      → IsBefore c w k m
  earlier box k m none c w before can = elim before [
    | inr b ↦ absurd (omega (arith, b.1))
    | inl b ↦ elim (cases_lt c k) [
      | inl s ↦ inl s
      | inr s ↦
          let e : c ≡ k = omega (arith, b, s) in
          elim (cases_lt w m) [
            | inl less ↦ inr (e, less)
            | inr past ↦ absurd (none w past (can_same box c w k w e refl can))
          ]
    ]
  ]

  pub done_by : (box : List (List ℕ)) (k m : ℕ) (best : Option Place) → IsBestUpToBy n gains_at box k m best
      → ((v : ℕ) → m ≤ v → CanCutBy n box k v → ⊥) → IsBestUpToBy n gains_at box (k + 1) 0 best
  done_by box k m None h none = λ c w before can. h c w (earlier box k m none c w before can) can
  done_by box k m (Some p) h none = record {
    before = elim h.before [
      | inl b ↦ let s : p.channel < k + 1 = omega (arith, b) in inl s
      | inr b ↦ let s : p.channel < k + 1 = omega (arith, b.0) in inl s
    ];
    cut = h.cut;
    gains = h.gains;
    best = λ c w before can. h.best c w (earlier box k m none c w before can) can;
    first = h.first;
  }
