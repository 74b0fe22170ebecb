-- What holds at each turn of the loop over `y` and `x` in `fill`.
use Rattle.std.proofs.Common.{◌≡◌, ◌+◌, ◌*◌, ◌<◌, ℕ, Some}
use Rattle.std.specs.List.{slice_get}
use Rattle.pix_uses.proofs.pixels.fill.Given as goal

abbrev pub invariant-loop-y : goal.invariant-loop-y
invariant-loop-y l = (l.picture.width ≡ l.initial.picture.width) × (l.picture.height ≡ l.initial.picture.height)
    × ((k : ℕ) → k < l.y * l.picture.width → slice_get l.picture.pixels k ≡ Some l.clr)

abbrev pub invariant-loop-x : goal.invariant-loop-x
invariant-loop-x l = (l.picture.width ≡ l.initial.picture.width) × (l.picture.height ≡ l.initial.picture.height)
    × ((k : ℕ) → k < l.y * l.picture.width + l.x → slice_get l.picture.pixels k ≡ Some l.clr)
