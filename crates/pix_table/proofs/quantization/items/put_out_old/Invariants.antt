-- What holds at each turn of the loop over `i` in `put_out_old`.
use Rattle.std.proofs.Common.{◌≡◌, ℕ, ◌+◌, ◌*◌, ◌≤◌, List, [], map, take, get_or, sum_by}
use Rattle.pix_table.specs.quantization.Items.{counted_sum, item_sum}
use Rattle.pix_table.proofs.quantization.items.put_out_old.Given as goal

-- the first i colors are items or counted, and the others stand
abbrev pub invariant-loop-i : goal.invariant-loop-i
invariant-loop-i g l = record {
  room : 2 * l.items.pairs + l.items.singles + counted_sum g.C.Counted.key_parts (λ c. 1) l.counts ≤ l.i;
  items : (f : List ℕ → ℕ) → sum_by f (take l.i (map g.C.Counted.parts l.fn.colors))
      ≡ item_sum f (map g.C.Counted.parts l.colors) l.items.pairs (l.items.pairs + l.items.singles) + counted_sum g.C.Counted.key_parts f l.counts;
  rest : (k : ℕ) → l.i ≤ k → get_or (map g.C.Counted.parts l.colors) k [] ≡ get_or (map g.C.Counted.parts l.fn.colors) k [];
}
