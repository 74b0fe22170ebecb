-- What holds at each turn of the loop over `p` in `begin`.
use Rattle.std.specs.Prelude.{◌≡◌, ℕ, ◌<◌, length, slice_index}
use Rattle.pix_table.proofs.matching.inverse_map.begin.Given as goal

-- the indices below the index are written, and nothing else is changed
abbrev pub invariant-loop-p : goal.invariant-loop-p
invariant-loop-p l = record {
  written : (k : ℕ) → k < l.p → slice_index l.cells.lists k ≡ slice_index l.lanes.indices k;
  long : length l.cells.lists ≡ 65539;
  known : l.cells.known ≡ l.initial.cells.known;
}
