-- What holds at each turn of the loop over `i` in `count_channels`.
use Rattle.std.proofs.Common.{◌≡◌, ◌<◌, ℕ, [], length, map}
use Rattle.std.specs.Prelude.{slice_index_or}
use Rattle.pix_uses.proofs.light.count_channels.Given as goal

-- the pixels before that place have as many channels as their type says
abbrev pub invariant-loop-i : goal.invariant-loop-i
invariant-loop-i g l = (k : ℕ) → k < l.i → length (slice_index_or (map (λ p. map (λ c. c.value) p.channels) l.pixels) k []) ≡ g.row.N
