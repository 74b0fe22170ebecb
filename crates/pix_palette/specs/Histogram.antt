-- How often each index of a palette is in a list.
use Rattle.std.specs.Prelude.{◌≡◌, ℕ, ◌<◌, nat_eq, List, length, slice_index_or, All, count_by}

-- how often the index k is in a list; `number` reads an index
abbrev pub count_of : {T : Type 0} → (T → ℕ) → List T → ℕ → ℕ
count_of number indices k = count_by (λ i. nat_eq (number i) k) indices

-- the counts of all indices below a length, past which none of the list is
pub record IsHistogram {T : Type 0} (number : T → ℕ) (len : ℕ) (indices : List T) (counts : List ℕ) : Type 0 where
  pub as_many : length counts ≡ len
  pub inside : All (λ i. number i < len) indices
  pub counted : (k : ℕ) → k < len → slice_index_or counts k 0 ≡ count_of number indices k
