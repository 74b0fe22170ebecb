-- The best of the places of a box of red, green and blue, one place after the other.
use Rattle.std.proofs.Common.{◌≡◌, ℕ, ◌+◌, ◌<◌, ◌≤◌, List, Option}
use Rattle.pix_table.specs.quantization.Places.{IsBefore}
use Rattle.pix_table.specs.quantization.BestPlaces.{CanCut, IsBestBefore, IsBestUpTo, gain_at}
use Rattle.pix_table.specs.declared.quantization.place.Place.{Place}
use Rattle.pix_table.proofs.lemmas.quantization.PlacesBy.{kept_by, taken_by, done_by}

-- the best so far stays where the next is no better
pub kept : (box : List (List ℕ)) (k v : ℕ) (old : Place) → IsBestBefore box k v old → (CanCut box k v → gain_at k v box ≤ old.gain)
    → IsBestBefore box k (v + 1) old
kept = kept_by 3 gain_at

-- a place that is better than all before it is the best
pub taken : (box : List (List ℕ)) (p : Place) → CanCut box p.channel p.value → gain_at p.channel p.value box ≡ p.gain
    → ((c w : ℕ) → IsBefore c w p.channel p.value → CanCut box c w → gain_at c w box < p.gain) → IsBestBefore box p.channel (p.value + 1) p
taken = taken_by 3 gain_at

-- where the box can be cut at no place of a channel from m on, the best before m is that of the whole channel
pub channel_done : (box : List (List ℕ)) (k m : ℕ) (best : Option Place) → IsBestUpTo box k m best
    → ((v : ℕ) → m ≤ v → CanCut box k v → ⊥) → IsBestUpTo box (k + 1) 0 best
channel_done = done_by 3 gain_at
