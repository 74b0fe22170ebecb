-- What holds at each turn of the loop over `i` in `has_nearly_opaque`.
use Rattle.std.proofs.Common.{◌≡◌, ℕ, ◌<◌, List, [], get_or, map}
use Rattle.pix_table.specs.SeenPixels.{seen_numbers}
use Rattle.pix_table.specs.quantization.SeenTables.{opaque_settled}
use Rattle.pix_table.proofs.rgba.opaque.has_nearly_opaque.Given as goal

-- none of the first i entries changes
abbrev pub invariant-loop-i : goal.invariant-loop-i
invariant-loop-i l = record {
  stay : (group : List (List ℕ)) (k : ℕ) → k < l.i
      → opaque_settled (get_or (map seen_numbers l.entries) k []) group ≡ get_or (map seen_numbers l.entries) k [];
}
