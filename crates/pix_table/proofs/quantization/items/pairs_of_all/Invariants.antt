-- What holds at each turn of the loop over `i` in `pairs_of_all`.
use Rattle.std.proofs.Common.{◌≡◌, ℕ, ◌+◌, ◌*◌, ◌≤◌, All, List, length, drop, sum_by}
use Rattle.std.specs.Simd.{first_chunks}
use Rattle.pix_table.specs.quantization.Items.{IsItem, counted_sum, pair_items, spread}
use Rattle.pix_table.proofs.quantization.items.pairs_of_all.Given as goal

-- the colors that the first i places count are items
abbrev pub invariant-loop-i : goal.invariant-loop-i
invariant-loop-i g l = record {
  room : 2 * l.all ≤ length l.colors;
  are : All (IsItem g.C.Counted.channels) (pair_items g.C.Counted.parts (first_chunks 2 l.all l.colors));
  items : (f : List ℕ → ℕ) → sum_by f (spread g.C.Counted.channels (pair_items g.C.Counted.parts (first_chunks 2 l.all l.colors)))
      + counted_sum g.C.Counted.key_parts f (drop l.i l.counts)
      ≡ sum_by f (spread g.C.Counted.channels (pair_items g.C.Counted.parts (first_chunks 2 l.fn.pairs l.fn.colors)))
      + counted_sum g.C.Counted.key_parts f l.counts;
}
