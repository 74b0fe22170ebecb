-- What holds at each turn of the loop over `k` in `look_up`.
use Rattle.std.proofs.Common.{◌≡◌, ◌<◌, ℕ, get_or}
use Rattle.std.specs.Prelude.{slice_get}
use Rattle.pix_table.proofs.packing.look.look_up.Given as goal

-- the first k places are looked up
abbrev pub invariant-loop-k : goal.invariant-loop-k
invariant-loop-k g l = (j : ℕ) → j < l.k → slice_get l.colors j ≡ slice_get l.entries (get_or l.indices j 0)
