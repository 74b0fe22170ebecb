-- What holds at each turn of the loop over `p` in `sift`.
use Rattle.std.proofs.Common.{◌≡◌, ◌<◌, ◌≤◌, ◌+◌, ℕ, map, get_or}
use Rattle.pix_table.specs.matching.Nearest.{numbers}
use Rattle.pix_table.proofs.lemmas.matching.ShortLists.{AreSifted}
use Rattle.pix_table.proofs.matching.inverse_map.sift.Given as goal

-- the first p of the list are sifted, and the lists before `start` stay
abbrev pub invariant-loop-p : goal.invariant-loop-p
invariant-loop-p l = record {
  sifted : AreSifted (map numbers l.entries) l.reach (numbers l.low) l.at (λ q. get_or l.fn.lists (l.from.start + q) 0) l.p (λ q. get_or l.lists (l.start + q) 0) l.count;
  few : l.count ≤ l.p;
  before : (k : ℕ) → k < l.start → get_or l.lists k 0 ≡ get_or l.fn.lists k 0;
}
