-- A picture at another size: how much each place of a side counts for each place of the new side,
-- and what the new pixels are.
use Rattle.std.specs.Prelude.{◌≡◌, ℕ, zero, suc, pos, ◌+◌, ◌-◌, ◌*◌, ◌/◌, ◌%◌, ◌<◌, ◌&&◌, nat_eq, nat_le, min, max, List, [], slice_index, slice_index_or, if◌then◌else◌}
use Rattle.std.specs.Int.{abs_diff}
use Rattle.pix_chan.specs.Nearest.{nearest}
use Rattle.pix_scale.specs.declared.filter.Filter.{Filter}
use Rattle.pix_scale.specs.declared.filter.Filter.TheVariants.{Nearest, Area, Linear}
use Rattle.pix_scale.specs.declared.filter.Kernel.{Kernel}
use Rattle.pix_scale.specs.declared.filter.Kernel.TheVariants.{Point, Box, Line, Triangle}

-- f 0 + f 1 + .. + f (n - 1)
abbrev pub total : ℕ → (ℕ → ℕ) → ℕ
total zero f = 0
total (suc n) f = total n f + f n

-- how many places a side has, what place j counts for place i of the new side, what all of them
-- count together, and how many count something, at most
pub record Axis : Type 0 where
  pub places : ℕ
  pub weight : ℕ → ℕ → ℕ
  pub whole : ℕ
  pub taps : ℕ

-- The weights of the first m places of the new side add up to the whole, which is positive.
pub record IsAxis (axis : Axis) (m : ℕ) : Type 0 where
  pub some : 0 < axis.whole
  pub adds_up : (i : ℕ) → i < m → total axis.places (axis.weight i) ≡ axis.whole

-- the greatest number up to k that divides both a and b
abbrev pub common : ℕ → ℕ → ℕ → ℕ
common zero a b = 1
common (suc k) a b = if nat_eq (a % suc k) 0 && nat_eq (b % suc k) 0 then suc k else common k a b

-- n divided by the greatest common divisor of n and m
abbrev pub lowest : ℕ → ℕ → ℕ
lowest n m = n / common (min n m) n m

-- In what follows n places become m, both divided by their greatest common divisor. Place j of the
-- old side begins at j * m and is m long, and place i of the new one begins at i * n and is n long.

-- areas: the part of place i that lies in place j
abbrev pub overlap : ℕ → ℕ → ℕ → ℕ → ℕ
overlap n m i j = min n ((j + 1) * m - i * n) - min n (j * m - i * n)

-- twice the middle of place i, held between the middles of the first and the last of the old places
abbrev pub held : (places n m i : ℕ) → ℕ
held places n m i = max m (min ((2 * places - 1) * m) ((2 * i + 1) * n))

-- how much nearer than 2 n the middles of places i and j are, both taken twice
abbrev pub nearness : ℕ → ℕ → ℕ → ℕ → ℕ
nearness n m i j = 2 * n - abs_diff ((2 * j + 1) * m) ((2 * i + 1) * n)

-- 2 ^ 15 times the part that a number is of a sum, rounded to the nearest, ties up
abbrev pub rounded_part : ℕ → ℕ → ℕ
rounded_part part sum = (2 * (part * 32768) + sum) / (2 * sum)

-- the part that the nearness of the places before j is of that of all
abbrev pub mark : (places n m i j : ℕ) → ℕ
mark places n m i j = rounded_part (total j (nearness n m i)) (total places (nearness n m i))

-- the kernels: the place with the middle, of two the later; areas; the two nearest middles, each the
-- more the nearer it is; and all middles nearer than an old place is long
abbrev pub axis_of : Kernel → (places n m : ℕ) → Axis
axis_of Point places n m = record { places = places; weight = λ i j. if nat_eq j ((2 * i + 1) * n / (2 * m)) then 1 else 0; whole = 1; taps = min places 1 }
axis_of Box places n m = record { places = places; weight = overlap n m; whole = n; taps = min places ((n + 2 * m - 2) / m) }
axis_of Line places n m = record { places = places; weight = λ i j. 2 * m - abs_diff ((2 * j + 1) * m) (held places n m i); whole = 2 * m; taps = min places 2 }
axis_of Triangle places n m = record { places = places; weight = λ i j. mark places n m i (j + 1) - mark places n m i j; whole = 32768; taps = min places ((2 * n + m - 1) / m) }

-- the kernel of a filter where n places become m
abbrev pub kernel_of : Filter → ℕ → ℕ → Kernel
kernel_of Nearest n m = Point
kernel_of Area n m = Box
kernel_of Linear n m = if nat_le n m then Line else Triangle

-- a side of n places that become m, by a filter
abbrev pub axis : Filter → ℕ → ℕ → Axis
axis filter n m = axis_of (kernel_of filter n m) n (lowest n m) (lowest m n)

-- the channel at the point (x, y) of the new picture: the mean of those of the old one, get u v at
-- the point (u, v), by the weights of both sides, rounded once to the nearest, ties up
abbrev pub scaled : ℕ → Axis → Axis → (ℕ → ℕ → ℕ) → ℕ → ℕ → ℕ
scaled max across down get x y =
    nearest max (pos (total across.places (λ u. across.weight x u * total down.places (λ v. down.weight y v * get u v)))) (pos (across.whole * down.whole))

-- channel c at the point (u, v) of pixels whose rows begin a stride apart
abbrev pub channel_at : List (List ℕ) → ℕ → ℕ → ℕ → ℕ → ℕ
channel_at pixels stride c u v = slice_index (slice_index_or pixels (v * stride + u) []) c
