-- Faults of commands, one command on.
use Rattle.std.proofs.Common.{◌≡◌, ℕ, zero, suc, ◌+◌, ◌<◌, ◌≢◌, List, [], ◌∷◌, length, map, get_or, drop, arith, ap, sym, ◌∙◌, refl, false, nat_eq, ◌⊎◌, inl, inr}
use Rattle.std.proofs.lemmas.List.{drop_more, length-map, get_or-map}
use Rattle.std.proofs.lemmas.Bool.Decides.{nat_tests}
use Rattle.pix_flat.specs.declared.command.FlatCommand.{FlatCommand}
use Rattle.pix_flat.specs.Status.{fault_of, first_fault, count_before_fault}

cases_zero : (n : ℕ) → (n ≡ 0) ⊎ (n ≢ 0)
cases_zero zero = inl refl
cases_zero (suc n) = inr (λ e. absurd (omega arith))

not_zero : (n : ℕ) → n ≢ 0 → nat_eq n 0 ≡ false
not_zero n ne = grind (arith, nat_tests)

module _ {D M : Type 0} where
  -- a command that is not refused
  pub first_fault_on : (c : FlatCommand D M) (cs : List (FlatCommand D M)) → fault_of c ≡ 0 → first_fault (c ∷ cs) ≡ first_fault cs
  first_fault_on c cs e = rw e refl

  pub count_on : (c : FlatCommand D M) (cs : List (FlatCommand D M)) → fault_of c ≡ 0 → count_before_fault (c ∷ cs) ≡ suc (count_before_fault cs)
  count_on c cs e = rw e refl

  -- one that is
  pub first_fault_here : (c : FlatCommand D M) (cs : List (FlatCommand D M)) → fault_of c ≢ 0 → first_fault (c ∷ cs) ≡ fault_of c
  first_fault_here c cs ne = let e : nat_eq (fault_of c) 0 ≡ false = not_zero (fault_of c) ne in rw e refl

  pub count_here : (c : FlatCommand D M) (cs : List (FlatCommand D M)) → fault_of c ≢ 0 → count_before_fault (c ∷ cs) ≡ 0
  count_here c cs ne = let e : nat_eq (fault_of c) 0 ≡ false = not_zero (fault_of c) ne in rw e refl

  -- where the command at place i is the first that is left
  pub left_from : {C : Type 0} (flat : C → FlatCommand D M) (commands : List C) (i : ℕ) (command : C) → i < length commands → command ≡ get_or commands i command
      → drop i (map flat commands) ≡ flat command ∷ drop (i + 1) (map flat commands)
  left_from flat commands i command lt is =
      drop_more (map flat commands) i (flat command) (omega (arith, length-map commands flat))
      ∙ ap (λ (c : FlatCommand D M). c ∷ drop (i + 1) (map flat commands)) (get_or-map flat commands i command (flat command) lt ∙ ap flat (sym is))

  -- where none is refused, the first is not, nor is another
  none_first : (c : FlatCommand D M) (cs : List (FlatCommand D M)) → first_fault (c ∷ cs) ≡ 0 → fault_of c ≡ 0
  none_first c cs e = elim (cases_zero (fault_of c)) [
    | inl here ↦ here
    | inr ne ↦ sym (first_fault_here c cs ne) ∙ e
  ]

  pub none_at : (cs : List (FlatCommand D M)) (i : ℕ) (d : FlatCommand D M) → first_fault cs ≡ 0 → i < length cs → fault_of (get_or cs i d) ≡ 0
  none_at [] i d e lt = absurd (omega arith)
  none_at (c ∷ cs) zero d e lt = none_first c cs e
  none_at (c ∷ cs) (suc i) d e lt = none_at cs i d (sym (first_fault_on c cs (none_first c cs e)) ∙ e) (omega arith)
