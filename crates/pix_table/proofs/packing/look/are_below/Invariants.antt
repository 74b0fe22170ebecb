-- What holds at each turn of the loop over `i` in `are_below`.
use Rattle.std.proofs.Common.{◌≡◌, drop}
use Rattle.pix_table.specs.packing.LookUp.{all_below}
use Rattle.pix_table.proofs.packing.look.are_below.Given as goal

-- it is left to the indices from i on
abbrev pub invariant-loop-i : goal.invariant-loop-i
invariant-loop-i l = all_below l.count l.indices ≡ all_below l.count (drop l.i l.indices)
