-- What holds at each turn of the loop over `k` in `both_parts`.
use Rattle.std.proofs.Common.{◌≡◌}
use Rattle.pix_scale.specs.Axis.{total}
use Rattle.pix_scale.specs.Signed.{adds, takes, part_of}
use Rattle.pix_scale.proofs.Terms.{Made}
use Rattle.pix_scale.proofs.signed_weights.both_parts.Given as goal

-- the numbers below k are written, and the totals are those of the places before k
abbrev pub invariant-loop-k : goal.invariant-loop-k
invariant-loop-k l = record {
  plus : Made l.plus (part_of (adds l.filter l.n l.m l.i l.first) l.whole) l.k;
  minus : Made l.minus (part_of (takes l.filter l.n l.m l.i l.first) l.whole) l.k;
  added : l.added ≡ total l.k (adds l.filter l.n l.m l.i l.first);
  taken : l.taken ≡ total l.k (takes l.filter l.n l.m l.i l.first);
}
