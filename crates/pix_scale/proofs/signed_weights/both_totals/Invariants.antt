-- What holds at each turn of the loop over `k` in `both_totals`.
use Rattle.std.proofs.Common.{◌≡◌, ◌≤◌, ◌*◌}
use Rattle.pix_scale.specs.Axis.{total}
use Rattle.pix_scale.specs.Signed.{adds, takes}
use Rattle.pix_scale.proofs.signed_weights.both_totals.Given as goal

-- the totals have the places before k, and are small
abbrev pub invariant-loop-k : goal.invariant-loop-k
invariant-loop-k l = record {
  added : l.added ≡ total l.k (adds l.filter l.n l.m l.i l.first);
  taken : l.taken ≡ total l.k (takes l.filter l.n l.m l.i l.first);
  added_small : l.added ≤ 134217728 * l.k;
  taken_small : l.taken ≤ 134217728 * l.k;
}
