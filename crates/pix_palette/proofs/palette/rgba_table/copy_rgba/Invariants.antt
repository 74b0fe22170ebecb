-- What holds at each turn of the loop over `i` in `copy_rgba`.
use Rattle.std.proofs.Common.{◌≡◌, length, map, take}
use Rattle.pix_table.specs.SeenPixels.{rgba_numbers}
use Rattle.pix_table.specs.SrgbColor.{srgba_numbers}
use Rattle.pix_palette.proofs.palette.rgba_table.copy_rgba.Given as goal

-- the first i colors are copied
abbrev pub invariant-loop-i : goal.invariant-loop-i
invariant-loop-i l = record {
  copied : map srgba_numbers (take l.i l.slots) ≡ map rgba_numbers (take l.i l.colors);
  room : length l.slots ≡ length l.fn.slots;
}
