-- What holds of each operator, by a test of all.
use Rattle.std.specs.Prelude.{Bool, true, false, Some, slice_get}
use Rattle.std.specs.List.{list_all}
use Rattle.std.proofs.Common.{◌≡◌, ℕ, List, get_or, inl, inr}
use Rattle.std.proofs.lemmas.Bool.{cases_Bool}
use Rattle.std.proofs.lemmas.Option.{slice_get_within, get_or_from_slice_get}
use Rattle.std.proofs.lemmas.List.Folds.{list_all_at}
use Rattle.pix_ops.specs.declared.ops.Op.{Op}
use Rattle.pix_ops.specs.OperatorNames.{operators, op_number, stands_at_number}

-- a test that all elements pass is passed by the one at an index
passed_at : {X : Type 0} (test : X → Bool) (xs : List X) (i : ℕ) (x : X) → list_all test xs ≡ true → slice_get xs i ≡ Some x → test x ≡ true
passed_at test xs i x all at = elim (cases_Bool (test x)) [
  | inl passed ↦ passed
  | inr failed ↦
      let fails : test (get_or xs i x) ≡ false = rw (get_or_from_slice_get xs i x x at) failed in
      absurd (cc (list_all_at test xs i x (slice_get_within xs i x at) fails))
]

-- a test that all operators of the list pass is passed by each operator
pub passed_by_each : (test : Op → Bool) → list_all test operators ≡ true → (op : Op) → test op ≡ true
passed_by_each test all op = passed_at test operators (op_number op) op all (stands_at_number op)
