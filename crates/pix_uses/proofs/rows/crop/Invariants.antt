-- What holds at each turn of the loop over `row` in `crop`.
use Rattle.std.proofs.Common.{◌≡◌, ◌++◌}
use Rattle.std.specs.List.{flat_map}
use Rattle.pix.specs.Rows.{rows_of}
use Rattle.pix_uses.proofs.rows.crop.Given as goal

abbrev pub invariant-loop-row : goal.invariant-loop-row
invariant-loop-row l = flat_map (λ row. row) (rows_of l.picture l.fn.reg) ≡ l.pixels.items ++ flat_map (λ row. row) l.row-iterator
