-- What holds at each turn of the loop over `i` in `pairs_of_old`.
use Rattle.std.proofs.Common.{◌≡◌, ℕ, ◌+◌, ◌*◌, ◌≤◌, All, List, [], map, take, get_or, sum_by}
use Rattle.std.specs.Simd.{first_chunks}
use Rattle.pix_table.specs.quantization.Items.{IsItem, counted_sum, pair_items, spread}
use Rattle.pix_table.proofs.quantization.items.pairs_of_old.Given as goal

-- the first i colors are items or counted, and the others stand
abbrev pub invariant-loop-i : goal.invariant-loop-i
invariant-loop-i g l = record {
  room : 2 * l.pairs ≤ l.i;
  are : All (IsItem g.C.Counted.channels) (pair_items g.C.Counted.parts (first_chunks 2 l.pairs l.colors));
  items : (f : List ℕ → ℕ) → sum_by f (take l.i (map g.C.Counted.parts l.fn.colors))
      ≡ sum_by f (spread g.C.Counted.channels (pair_items g.C.Counted.parts (first_chunks 2 l.pairs l.colors))) + counted_sum g.C.Counted.key_parts f l.counts;
  rest : (k : ℕ) → l.i ≤ k → get_or (map g.C.Counted.parts l.colors) k [] ≡ get_or (map g.C.Counted.parts l.fn.colors) k [];
}
