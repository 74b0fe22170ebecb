-- What holds at each turn of the loop over `i` in `establish_channels`.
use Rattle.std.proofs.Common.{◌≡◌, ◌<◌, ℕ, [], map, length, get_or}
use Rattle.pix_el.proofs.stored.establish_channels.Given as goal

-- the pixels below the index have their channels
abbrev pub invariant-loop-i : goal.invariant-loop-i
invariant-loop-i g l = (k : ℕ) → k < l.i → length (get_or (map g.D.Stored.reads l.pixels) k []) ≡ g.P.Pixel.layout.count
