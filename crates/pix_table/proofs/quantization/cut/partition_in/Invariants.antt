-- What holds at each turn of the loop over `i` in `partition_in`.
use Rattle.std.proofs.Common.{◌<◌, ◌≤◌, ℕ, get_or, IsPermutation}
use Rattle.pix_table.proofs.quantization.cut.partition_in.Given as goal

-- of the first i colors those below the value come first
abbrev pub invariant-loop-i : goal.invariant-loop-i
invariant-loop-i g l = record {
  within : l.at ≤ l.i;
  moved : IsPermutation l.fn.items l.items;
  front : (j : ℕ) (d : g.row.I.Denot) → j < l.at → get_or (g.I.Item.numbers (get_or l.items j d)) l.k 0 < l.value;
  back : (j : ℕ) (d : g.row.I.Denot) → l.at ≤ j → j < l.i → l.value ≤ get_or (g.I.Item.numbers (get_or l.items j d)) l.k 0;
}
