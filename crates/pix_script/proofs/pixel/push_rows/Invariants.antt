-- What holds at each turn of the loop in `push_rows`, and why it ends.
use Rattle.std.proofs.Common.{◌≡◌, ◌<◌, ◌++◌, length, map}
use Rattle.pix_script.specs.Pixels.{color_numbers}
use Rattle.pix_script.specs.Rows.{text_from}
use Rattle.pix_script.proofs.pixel.push_rows.Given as goal

-- with the text of the pixels that are left, the whole is there
abbrev pub invariant-loop-left : goal.invariant-loop-left
invariant-loop-left l = record {
  column : l.column < l.width;
  text : l.out.items ++ text_from l.width l.column (map color_numbers l.left) ≡ l.fn.out.items ++ text_from l.width 0 (map color_numbers l.fn.pixels);
}

abbrev pub decreases-loop-left : goal.decreases-loop-left
decreases-loop-left l = length l.left
