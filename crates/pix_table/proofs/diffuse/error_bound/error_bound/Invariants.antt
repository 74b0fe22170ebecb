-- What holds at each turn of the loop over `channel` in `error_bound`.
use Rattle.std.proofs.Common.{◌≡◌, ◌⊎◌, ◌+◌, ◌-◌, ◌*◌, ◌/◌, ◌<◌, ◌≤◌, ℕ, map}
use Rattle.pix_table.specs.diffuse.ErrorBound.{IsStep}
use Rattle.pix_table.proofs.diffuse.error_bound.error_bound.Given as goal

-- it is the bound of the channels before `channel`
abbrev pub invariant-loop-channel : goal.invariant-loop-channel
invariant-loop-channel g l = record {
  least : 24 ≤ l.bound;
  wide : (c low high : ℕ) → c < l.channel → IsStep (map g.C.ShownAs.shown l.entries) c low high → high - low ≤ 2 * l.bound;
  reached : (l.bound ≡ 24) ⊎ ((c : ℕ) × (low : ℕ) × (high : ℕ) × IsStep (map g.C.ShownAs.shown l.entries) c low high × (l.bound ≡ (high - low + 1) / 2));
}
