-- The widest step from a level of a channel to the next, by flags of the levels.
use Rattle.std.proofs.Common.{◌≡◌, ◌≢◌, ◌⊎◌, ℕ, zero, suc, ◌+◌, ◌-◌, ◌<◌, ◌≤◌, max, List, [], Bool, true, false, length, get_or, set, replicate, length-set, inl, inr, refl, sym, ap, ◌∙◌, subst, arith}
use Rattle.std.specs.Prelude.{slice_index}
use Rattle.std.proofs.lemmas.Bool.{cases_lt, cases_order, true≢false}
use Rattle.std.proofs.lemmas.List.{get_or-set_other}
use Rattle.std.proofs.lemmas.Grind.{get_or-set_at}
use Rattle.pix_table.specs.diffuse.ErrorBound.{AreLevels, IsLevel, IsStep}

no_flag : (n k : ℕ) → get_or (replicate n false) k false ≡ false
no_flag zero k = refl
no_flag (suc n) zero = refl
no_flag (suc n) (suc k) = no_flag n k

not_both : (b : Bool) → b ≡ true → b ≡ false → ⊥
not_both b t f = true≢false (sym t ∙ f)

pub none_marked : (entries : List (List ℕ)) (channel : ℕ) → AreLevels entries channel 0 (replicate 256 false)
none_marked entries channel = record {
  many = refl;
  byte = λ i b. absurd (omega (arith, b));
  known = λ i b. absurd (omega (arith, b));
  only = λ level e. absurd (not_both _ e (no_flag 256 level));
}

abbrev number : (entries : List (List ℕ)) (channel i : ℕ) → ℕ
number entries channel i = slice_index (get_or entries i []) channel

-- the level of one entry more is marked
pub one_marked : (entries : List (List ℕ)) (channel i n : ℕ) (flags : List Bool) → i < length entries → n ≡ number entries channel i → n < 256
    → AreLevels entries channel i flags → AreLevels entries channel (i + 1) (set flags n true)
one_marked entries channel i n flags inside is byte h =
    let here : get_or (set flags n true) n false ≡ true = get_or-set_at flags n n true false refl (omega (arith, h.many, byte)) in
    record {
      many = length-set _ _ _ ∙ h.many;
      byte = λ j b. elim (cases_lt j i) [
        | inl l ↦ h.byte j l
        | inr l ↦ (let e : i ≡ j = omega (arith, b, l) in subst (λ k. number entries channel k < 256) e (subst (λ m. m < 256) is byte))
      ];
      known = λ j b. elim (cases_lt j i) [
        | inl l ↦ elim (cases_order (number entries channel j) n) [
          | inl e ↦ subst (λ m. get_or (set flags n true) m false ≡ true) (sym e) here
          | inr o ↦
              let apart : number entries channel j ≢ n = (λ e. elim o [ inl m ↦ omega (arith, m, e) | inr m ↦ omega (arith, m, e) ]) in
              get_or-set_other flags n (number entries channel j) true false apart ∙ h.known j l
        ]
        | inr l ↦
            let e : i ≡ j = omega (arith, b, l) in
            subst (λ m. get_or (set flags n true) m false ≡ true) (is ∙ ap (number entries channel) e) here
      ];
      only = λ level flag. elim (cases_order level n) [
        | inl e ↦ (i, inside, sym is ∙ sym e)
        | inr o ↦
            let apart : level ≢ n = (λ e. elim o [ inl m ↦ omega (arith, m, e) | inr m ↦ omega (arith, m, e) ]) in
            h.only level (sym (get_or-set_other flags n level true false apart) ∙ flag)
      ];
    }

-- `last` is the greatest level below n, or 256 where there is none, and `widest` the widest step to a level below n
pub record IsWidest (entries : List (List ℕ)) (channel : ℕ) (flags : List Bool) (n last widest : ℕ) : Type 0 where
  pub some : last < 256 → (last < n) × (get_or flags last false ≡ true)
  pub none : (m : ℕ) → m < n → (last < m) ⊎ (256 ≤ last) → get_or flags m false ≡ false
  pub small : widest < 256
  pub wide : (low high : ℕ) → high < n → IsStep entries channel low high → high - low ≤ widest
  pub reached : 0 < widest → (low : ℕ) × (high : ℕ) × IsStep entries channel low high × (high - low ≡ widest)

pub begun : (entries : List (List ℕ)) (channel : ℕ) (flags : List Bool) → IsWidest entries channel flags 0 256 0
begun entries channel flags = record {
  some = λ less. absurd (omega (arith, less));
  none = λ m less far. absurd (omega (arith, less));
  small = omega arith;
  wide = λ low high less step. absurd (omega (arith, less));
  reached = λ more. absurd (omega (arith, more));
}

module _ (entries : List (List ℕ)) (channel : ℕ) (flags : List Bool) (marked : AreLevels entries channel (length entries) flags) (n last widest : ℕ)
    (h : IsWidest entries channel flags n last widest) where
  flagged : (level : ℕ) → IsLevel entries channel level → get_or flags level false ≡ true
  flagged level (i, inside, is) = subst (λ m. get_or flags m false ≡ true) is (marked.known i inside)

  pub passed : get_or flags n false ≡ false → IsWidest entries channel flags (n + 1) last widest
  passed clear = record {
    some = λ less. (omega (arith, (h.some less).0), (h.some less).1);
    none = λ m less far. elim (cases_lt m n) [
      | inl l ↦ h.none m l far
      | inr l ↦ (let e : n ≡ m = omega (arith, less, l) in subst (λ k. get_or flags k false ≡ false) e clear)
    ];
    small = h.small;
    wide = λ low high less step. elim (cases_lt high n) [
      | inl l ↦ h.wide low high l step
      | inr l ↦
          let e : n ≡ high = omega (arith, less, l) in
          absurd (not_both _ (flagged high step.high_is) (subst (λ k. get_or flags k false ≡ false) e clear))
    ];
    reached = h.reached;
  }

  -- a step to n is one from the last level
  from_last : (low : ℕ) → IsStep entries channel low n → low ≡ last
  from_last low step = elim (cases_lt last 256) [
    | inl l ↦
        let s = h.some l in
        let is = marked.only last s.1 in
        let between = step.none_between is.0 is.1 in
        let below : last ≤ low = elim between [
          | inl m ↦ subst (λ k. k ≤ low) is.2 m
          | inr m ↦ (let up : n ≤ last = subst (λ k. n ≤ k) is.2 m in absurd (omega (arith, up, s.0)))
        ] in
        elim (cases_lt last low) [
          | inl m ↦ absurd (not_both _ (flagged low step.low_is) (h.none low step.order (inl m)))
          | inr m ↦ omega (arith, m, below)
        ]
    | inr l ↦ absurd (not_both _ (flagged low step.low_is) (h.none low step.order (inr l)))
  ]

  -- no level lies between the last one and n
  apart : (i : ℕ) → i < length entries → (number entries channel i ≤ last) ⊎ (n ≤ number entries channel i)
  apart i inside = elim (cases_lt last (number entries channel i)) [
    | inl l ↦ elim (cases_lt (number entries channel i) n) [
      | inl m ↦ absurd (not_both _ (marked.known i inside) (h.none (number entries channel i) m (inl l)))
      | inr m ↦ inr m
    ]
    | inr l ↦ inl l
  ]

  pub taken : get_or flags n false ≡ true → n < 256 → IsWidest entries channel flags (n + 1) n (max (n - last) widest)
  taken flag few = record {
    some = λ less. (omega arith, flag);
    none = λ m less far. elim far [ inl l ↦ absurd (omega (arith, l, less)) | inr l ↦ absurd (omega (arith, l, few)) ];
    small = omega (arith, few, h.small);
    wide = λ low high less step. elim (cases_lt high n) [
      | inl l ↦ (let before = h.wide low high l step in omega (arith, before))
      | inr l ↦
          let e : high ≡ n = omega (arith, less, l) in
          let same : low ≡ last = from_last low (subst (λ k. IsStep entries channel low k) e step) in
          omega (arith, e, same)
    ];
    reached = λ more. elim (cases_lt widest (n - last)) [
      | inl l ↦
          let before : last < n = omega (arith, l) in (
            last,
            n,
            record { low_is = marked.only last (h.some (omega (arith, before, few))).1; high_is = marked.only n flag; order = before; none_between = apart },
            omega (arith, l),
          )
      | inr l ↦
          let r = h.reached (omega (arith, more, l)) in
          let is = r.3 in
          (r.0, r.1, r.2, omega (arith, is, l))
    ];
  }
