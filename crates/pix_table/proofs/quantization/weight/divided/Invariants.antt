-- What holds at each turn of the loop over `i` in `divided`.
use Rattle.std.proofs.Common.{◌≡◌, ◌+◌, ◌-◌, ◌*◌, ◌/◌, ◌^◌, ◌<◌}
use Rattle.pix_table.proofs.quantization.weight.divided.Given as goal

-- the highest bits of the number, as many as the turns so far, are divided
abbrev pub invariant-loop-i : goal.invariant-loop-i
invariant-loop-i l = record { divided : l.whole * l.by + l.rest ≡ l.n / 2 ^ (128 - l.i); rest : l.rest < l.by }
