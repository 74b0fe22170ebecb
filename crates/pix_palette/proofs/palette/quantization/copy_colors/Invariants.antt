-- What holds at each turn of the loop over `i` in `copy_colors`.
use Rattle.std.proofs.Common.{◌≡◌, length, map, take}
use Rattle.pix_palette.specs.Palette.{numbers}
use Rattle.pix_palette.proofs.palette.quantization.copy_colors.Given as goal

-- the first i colors are copied
abbrev pub invariant-loop-i : goal.invariant-loop-i
invariant-loop-i g l = record {
  copied : map numbers (take l.i l.slots) ≡ map g.C.TableColor.channels (take l.i l.colors);
  room : length l.slots ≡ length l.fn.slots;
}
