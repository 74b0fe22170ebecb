-- What holds at each turn of the loop over `i` in `put_out_all`.
use Rattle.std.proofs.Common.{◌≡◌, ℕ, ◌+◌, ◌*◌, ◌≤◌, List, length, map, drop}
use Rattle.pix_table.specs.quantization.Items.{counted_sum, item_sum}
use Rattle.pix_table.proofs.quantization.items.put_out_all.Given as goal

-- the colors that the first i places count are items
abbrev pub invariant-loop-i : goal.invariant-loop-i
invariant-loop-i g l = record {
  room : 2 * l.all.pairs + l.all.singles + counted_sum g.C.Counted.key_parts (λ c. 1) (drop l.i l.counts) ≤ length l.colors;
  items : (f : List ℕ → ℕ) → item_sum f (map g.C.Counted.parts l.colors) l.all.pairs (l.all.pairs + l.all.singles)
      + counted_sum g.C.Counted.key_parts f (drop l.i l.counts)
      ≡ item_sum f (map g.C.Counted.parts l.fn.colors) l.fn.items.pairs (l.fn.items.pairs + l.fn.items.singles) + counted_sum g.C.Counted.key_parts f l.counts;
}
