-- The composite of a hue: a channel on a circle of max + 1 steps, moved along the shorter arc to
-- the source's hue.
use Rattle.std.specs.Prelude.{◌≡◌, ℕ, ◌+◌, ◌-◌, ◌/◌, ℤ, pos, negsuc, suc, neg_ℤ, ◌+ℤ◌, ◌-ℤ◌, ◌*ℤ◌, ◌≤ℤ◌, nat_lt, if◌then◌else◌}
use Rattle.pix_ops.specs.declared.ops.Op.{Op}
use Rattle.pix_chan.specs.Number.{wrapping_sum, wrapping_difference}
use Rattle.pix_ops.specs.Operators.{row}
use Rattle.pix_ops.specs.Composite.{term}
use Rattle.pix_chan.specs.Step.{step, IsBetween}

-- half a turn, in steps
abbrev pub half_turn : ℕ → ℕ
half_turn max = (max + 1) / 2

-- the way from the hue d to the hue s along the shorter arc; where they are half a turn apart, the
-- way that does not pass 0
unfoldable pub shorter_arc : ℕ → ℕ → ℕ → ℤ
shorter_arc max d s =
    if nat_lt (half_turn max) (s - d) then (pos s -ℤ pos d) -ℤ pos (max + 1)
    else (if nat_lt (half_turn max) (d - s) then (pos s -ℤ pos d) +ℤ pos (max + 1)
    else pos s -ℤ pos d)

-- the hue that many steps on from d, round the circle
abbrev pub hue_after : ℕ → ℕ → ℤ → ℕ
hue_after max d (pos steps) = wrapping_sum max d steps
hue_after max d (negsuc steps) = wrapping_difference max d (suc steps)

-- how far a hue moves along the arc, in units: the source's alpha times the source's coefficient
abbrev pub hue_weight : ℕ → Op → ℕ → ℕ → ℕ
hue_weight max op sa da = term max (row op).source sa da

-- how many steps the weight goes of the arc from the hue d to the hue s
abbrev pub hue_steps : ℕ → ℕ → ℕ → ℕ → ℤ
hue_steps max weight d s = step max (pos weight *ℤ shorter_arc max d s)

-- the source's hue s, of alpha sa, composited with the destination's hue d, of alpha da
abbrev pub hue_composite : ℕ → Op → ℕ → ℕ → ℕ → ℕ → ℕ
hue_composite max op s sa d da = hue_after max d (hue_steps max (hue_weight max op sa da) d s)

-- The hue d moves to x by the weight: along an arc of at most half a turn, from its start to no
-- further than its end, which is s. It stays where the weight is 0, and arrives where it is the
-- maximum.
pub record IsHueMove (max weight d s x : ℕ) : Type 0 where
  pub steps : x ≡ hue_after max d (hue_steps max weight d s)
  pub forwards : shorter_arc max d s ≤ℤ pos (half_turn max)
  pub backwards : neg_ℤ (pos (half_turn max)) ≤ℤ shorter_arc max d s
  pub between : IsBetween (pos 0) (shorter_arc max d s) (hue_steps max weight d s)
  pub leads : hue_after max d (shorter_arc max d s) ≡ s
  pub stays : weight ≡ 0 → x ≡ d
  pub arrives : weight ≡ max → x ≡ s
