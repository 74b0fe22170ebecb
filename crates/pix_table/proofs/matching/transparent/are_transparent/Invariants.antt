-- What holds at each turn of the loop over `i` in `are_transparent`.
use Rattle.std.proofs.Common.{◌≡◌, drop, map}
use Rattle.pix_table.specs.packing.LookUp.{all_below}
use Rattle.pix_table.specs.matching.Nearest.{alpha_of}
use Rattle.pix_table.proofs.matching.transparent.are_transparent.Given as goal

-- it is left to the pixels from i on
abbrev pub invariant-loop-i : goal.invariant-loop-i
invariant-loop-i g l =
    all_below l.alpha (map alpha_of (map g.P.TablePixel.values l.pixels))
    ≡ all_below l.alpha (drop l.i (map alpha_of (map g.P.TablePixel.values l.pixels)))
