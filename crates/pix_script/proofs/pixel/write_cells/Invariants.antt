-- What holds at each turn of the loops in `write_cells`.
use Rattle.std.proofs.Common.{◌≡◌, ◌<◌, ◌+◌, ℕ, List, ◌++◌, map, take}
use Rattle.std.specs.List.{flat_map}
use Rattle.pix_script.specs.Pixels.{color_numbers}
use Rattle.pix_script.specs.Rows.{text_from}
use Rattle.pix_script.proofs.pixel.write_cells.Given as goal

-- the cells below the index have the text of the pixels below it, with no row that ends among them
abbrev pub invariant-loop-i : goal.invariant-loop-i
invariant-loop-i l = record {
  text : (rest : List (List ℕ)) → text_from l.width l.start (map color_numbers (take l.i l.pixels) ++ rest)
      ≡ flat_map (λ (t : List ℕ). t) (take l.i l.cells) ++ text_from l.width (l.start + l.i) rest;
}

-- the cells below the index have the text of the pixels below it, and the next pixel stands in the
-- column
abbrev pub invariant-loop-k : goal.invariant-loop-k
invariant-loop-k l = record {
  column : l.column < l.width;
  text : (rest : List (List ℕ)) → text_from l.width l.start (map color_numbers (take l.k l.pixels) ++ rest)
      ≡ flat_map (λ (t : List ℕ). t) (take l.k l.cells) ++ text_from l.width l.column rest;
}
