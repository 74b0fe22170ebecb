-- What holds at each turn of the loop over `p` in `Candidates::fill`.
use Rattle.std.specs.Prelude.{◌≡◌, ℕ, ◌<◌, ◌≤◌, slice_index, slice_index_or}
use Rattle.pix_table.specs.declared.color.Color.{Color}
use Rattle.pix_table.proofs.matching.candidates.Candidates.fill.Given as goal

-- the places below the length are as they were, and those behind it and below the index have the
-- last entry
abbrev pub invariant-loop-p : goal.invariant-loop-p
invariant-loop-p l = record {
  len : l.self.len ≡ l.initial.self.len;
  colors_before : (p : ℕ) (d : Color) → p < l.self.len → slice_index_or l.self.colors p d ≡ slice_index_or l.initial.self.colors p d;
  indices_before : (p : ℕ) → p < l.self.len → slice_index l.self.indices p ≡ slice_index l.initial.self.indices p;
  colors_behind : (p : ℕ) (d : Color) → l.self.len ≤ p → p < l.p → slice_index_or l.self.colors p d ≡ l.clr;
  indices_behind : (p : ℕ) → l.self.len ≤ p → p < l.p → slice_index l.self.indices p ≡ l.index;
}
