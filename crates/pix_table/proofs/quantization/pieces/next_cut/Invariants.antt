-- What holds at each turn of the loop over `i` in `next_cut`.
use Rattle.std.proofs.Common.{◌≡◌, take}
use Rattle.pix_table.specs.quantization.Pieces.{IsBestCutOrNone, total}
use Rattle.pix_table.proofs.quantization.pieces.next_cut.Given as goal

-- the best of the first i pieces is known, and how many colors they have
abbrev pub invariant-loop-i : goal.invariant-loop-i
invariant-loop-i l = record { start : l.start ≡ total (take l.i l.pieces); best : IsBestCutOrNone (take l.i l.pieces) l.best }
