-- What holds at each turn of the loop over `index` in `first_fault`.
use Rattle.std.proofs.Common.{◌≡◌, ◌+◌, drop, map}
use Rattle.pix_flat.specs.Status.{first_fault, count_before_fault}
use Rattle.pix_flat.proofs.status.first_fault.Given as goal

-- the first fault is among the commands that are left
abbrev pub invariant-loop-index : goal.invariant-loop-index
invariant-loop-index g l =
    let all = map g.C.Flatten.flat l.commands in
    record {
      fault : first_fault all ≡ first_fault (drop l.index all);
      count : count_before_fault all ≡ l.index + count_before_fault (drop l.index all);
    }
