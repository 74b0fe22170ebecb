-- Weighted sums of three channels and of the maximum, which the models Gray, YCbCr and Xyz use.
use Rattle.std.specs.Prelude.{ℕ, ℤ, pos, neg_ℤ, ◌+ℤ◌, ◌*ℤ◌, List, [], ◌∷◌}
use Rattle.pix_chan.specs.Nearest.{nearest}

-- the weights of three channels and of the maximum, and the whole that their sum is divided by
pub record Weights : Type 0 where
  pub first : ℤ
  pub second : ℤ
  pub third : ℤ
  pub offset : ℤ
  pub whole : ℕ

-- the sum of three channels and the maximum, each times its weight, over the whole: rounded to the
-- nearest channel, ties up
abbrev pub weighted_sum : ℕ → Weights → ℕ → ℕ → ℕ → ℕ
weighted_sum max w x y z =
    nearest max (w.first *ℤ pos x +ℤ w.second *ℤ pos y +ℤ w.third *ℤ pos z +ℤ w.offset *ℤ pos max) (pos w.whole)

-- three such sums of the same channels
abbrev pub weighted_sums : Weights → Weights → Weights → ℕ → ℕ → ℕ → ℕ → List ℕ
weighted_sums one two three max x y z =
    weighted_sum max one x y z ∷ weighted_sum max two x y z ∷ weighted_sum max three x y z ∷ []

-- a line of a table: the weights of three channels and of the maximum, and the whole
abbrev pub weights : ℤ → ℤ → ℤ → ℤ → ℕ → Weights
weights first second third offset whole =
    record { first = first; second = second; third = third; offset = offset; whole = whole }

-- a negative weight
abbrev pub less : ℕ → ℤ
less n = neg_ℤ (pos n)
