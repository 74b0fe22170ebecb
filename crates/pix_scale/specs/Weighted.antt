-- Tables of the caller's own: what counts for each place of a new side, and which tables are whole.
use Rattle.std.specs.Prelude.{ℕ, ℤ, zero, suc, pos, ◌+◌, ◌*◌, List, length, slice_index, slice_index_or, Bool, true, ◌&&◌, nat_eq, nat_lt, nat_le}
use borrow.Author.Differences.{up, down}
use Rattle.pix_scale.specs.Axis.{total}
use Rattle.pix_scale.specs.Signed.{Taps}

-- what counts for place i by a table: so many weights, for the places from the i-th of `firsts` on
abbrev pub given : (firsts : List ℕ) → (taps : ℕ) → (weights : List ℤ) → ℕ → Taps
given firsts taps weights i = record { first = slice_index firsts i; count = taps; weight = λ k. slice_index_or weights (i * taps + k) (pos 0) }

-- what weights add, and what they take away
abbrev pub added : Taps → ℕ
added row = total row.count (λ k. up (row.weight k))

abbrev pub taken : Taps → ℕ
taken row = total row.count (λ k. down (row.weight k))

-- whether weights lie in a side, add up to 2 ^ 14, and take away less than 2 ^ 13
abbrev pub is_whole : ℕ → Taps → Bool
is_whole places row = nat_le (row.first + row.count) places && (nat_lt (taken row) 8192 && nat_eq (added row) (16384 + taken row))

-- whether a test holds for each number below n
abbrev pub is_each : ℕ → (ℕ → Bool) → Bool
is_each zero f = true
is_each (suc n) f = is_each n f && f n

-- whether a table has a row for each place of a new side, and all of them lie in a side and add up
abbrev pub is_table : (places size : ℕ) → (firsts : List ℕ) → (taps : ℕ) → (weights : List ℤ) → Bool
is_table places size firsts taps weights =
    (nat_eq (length firsts) size && (nat_le taps places && nat_eq (length weights) (size * taps))) && is_each size (λ i. is_whole places (given firsts taps weights i))
