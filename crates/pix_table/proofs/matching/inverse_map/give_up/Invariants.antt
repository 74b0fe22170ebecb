-- What holds at each turn of the loop over `k` in `give_up`.
use Rattle.std.specs.Prelude.{◌≡◌, ℕ, ◌<◌, length, slice_index_or}
use Rattle.pix_table.specs.declared.matching.inverse_map.ShortList.{ShortList}
use Rattle.pix_table.proofs.matching.inverse_map.give_up.Given as goal

-- the cells below the index have no list, and nothing else is changed
abbrev pub invariant-loop-k : goal.invariant-loop-k
invariant-loop-k l = record {
  empty : (k : ℕ) (d : ShortList) → k < l.k → (slice_index_or l.cells.known k d).count ≡ 0;
  long : length l.cells.known ≡ 37440;
  lists : l.cells.lists ≡ l.initial.cells.lists;
  first : l.cells.first ≡ l.initial.cells.first;
}
