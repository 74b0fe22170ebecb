-- What holds at each turn of the loop over `k` in `add_few`.
use Rattle.std.proofs.Common.{◌≡◌, ℕ, ◌<◌, ◌≤◌, get_or, length}
use Rattle.pix_table.specs.quantization.Groups.{IsTogether}
use Rattle.pix_table.specs.declared.quantization.box_sums.Sums.{Sums}
use Rattle.pix_table.specs.declared.quantization.sums64.Sums64.{Sums64}
use Rattle.pix_table.proofs.quantization.refine.add_few.Given as goal

-- the first k are added, and the others stand
abbrev pub invariant-loop-k : goal.invariant-loop-k
invariant-loop-k l = record {
  added : (j : ℕ) (d : Sums) (e : Sums64) → j < length l.fn.sums → j < l.k → IsTogether (get_or l.fn.sums j d) (get_or l.few j e) (get_or l.sums j d);
  stand : (j : ℕ) (d : Sums) → l.k ≤ j → get_or l.sums j d ≡ get_or l.fn.sums j d;
}
