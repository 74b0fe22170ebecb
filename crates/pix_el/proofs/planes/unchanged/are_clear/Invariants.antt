-- What holds at each turn of the loop over `i` in `are_clear`.
use Rattle.std.proofs.Common.{◌≡◌, ◌<◌, ℕ, map, get_or}
use Rattle.pix_el.specs.Planes.{coverage_of}
use Rattle.pix_el.proofs.planes.unchanged.are_clear.Given as goal

-- if none was seen, the mattes below the index are 0
abbrev pub invariant-loop-i : goal.invariant-loop-i
invariant-loop-i g l = l.any ≡ 0 → (k : ℕ) → k < l.i → get_or (map (coverage_of g.C.Channel.max g.M.Coverage.numbers) l.src) k 0 ≡ 0
