-- What holds at each turn of the loop in `refine_seen_by`.
use Rattle.std.proofs.Common.{◌≡◌, ℕ, ◌-◌, List, All, length, map}
use Rattle.pix_table.specs.quantization.Items.{AreItemsOf}
use Rattle.pix_table.specs.quantization.Refine.{AreRoundsBy}
use Rattle.pix_table.specs.SeenPixels.{AreSeen, seen_distance, seen_numbers}
use Rattle.pix_table.specs.quantization.SeenTables.{seen_settled}
use Rattle.pix_table.proofs.rgba.refine.refine_seen_by.Given as goal

-- with the rounds that are left they are all rounds
abbrev pub invariant-loop-done : goal.invariant-loop-done
invariant-loop-done l = record {
  rounds : (all : List (List ℕ)) → AreItemsOf all (map seen_numbers l.colors) l.items.pairs l.items.singles → All AreSeen all → (new : List (List ℕ))
      → AreRoundsBy seen_distance seen_settled (l.rounds - l.done) all (map seen_numbers l.entries) new
      → AreRoundsBy seen_distance seen_settled l.rounds all (map seen_numbers l.fn.entries) new;
  seen : All AreSeen (map seen_numbers l.entries);
  room : length l.sums ≡ 256;
}
