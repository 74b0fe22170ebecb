-- A run at one channel of one point: rounded at each step, in exact fractions that are never
-- rounded, and the bound of their distance.
use Rattle.std.specs.Prelude.{ℕ, max, ◌+◌, ◌*◌, ◌<◌, ◌≤◌, IsTrue, List, length, fold, All, sum_by, ⊤}
use Rattle.pix_ops.specs.declared.ops.Op.{Op}
use Rattle.pix_chan.specs.Product.{channel_product, fineness}
use Rattle.pix_ops.specs.Operators.{Coefficient, Zero, One, OtherAlpha, OneMinusAlpha, row, has_constant_source, reads, enters, product_count, matted_count}
use Rattle.pix_ops.specs.Composite.{channel_composite}
use Rattle.pix_ops.specs.ExactComposite.{exact_composite, Within}

-- what one command does to one channel and its alpha
pub data ChannelEffect : Type 0 where
  -- a clear or a copy: they become s and sa
  Replaced : (s sa : ℕ) → ChannelEffect
  -- a composite with a source of channel s and alpha sa
  Composited : (op : Op) (s sa : ℕ) → ChannelEffect
  -- a composite with such a source through a matte value
  Matted : (op : Op) (matte s sa : ℕ) → ChannelEffect

-- every number of the effect is at most the maximum
abbrev pub InRange : ℕ → ChannelEffect → Type 0
InRange max (Replaced s sa) = (s ≤ max) × (sa ≤ max)
InRange max (Composited op s sa) = (s ≤ max) × (sa ≤ max)
InRange max (Matted op matte s sa) = (matte ≤ max) × (s ≤ max) × (sa ≤ max)

-- a channel and its alpha, rounded
pub record Rounded : Type 0 where
  pub channel : ℕ
  pub alpha : ℕ

-- both after a composite with a source of channel s and alpha sa
abbrev pub rounded_composite : ℕ → Op → ℕ → ℕ → Rounded → Rounded
rounded_composite max op s sa dest = record {
  channel = channel_composite max op s sa dest.channel dest.alpha;
  alpha = channel_composite max op sa sa dest.alpha dest.alpha;
}

-- both after an effect
abbrev pub rounded_step : ℕ → Rounded → ChannelEffect → Rounded
rounded_step max dest (Replaced s sa) = record { channel = s; alpha = sa }
rounded_step max dest (Composited op s sa) = rounded_composite max op s sa dest
rounded_step max dest (Matted op matte s sa) = rounded_composite max op (channel_product max s matte) (channel_product max sa matte) dest

-- the rounded run: both after a list of effects
abbrev pub rounded_run : ℕ → Rounded → List ChannelEffect → Rounded
rounded_run max start effects = fold (rounded_step max) start effects

-- a channel and its alpha in exact fractions: value / whole and alpha / whole units
pub record Exact : Type 0 where
  pub value : ℕ
  pub alpha : ℕ
  pub whole : ℕ

-- both after a composite with a source of channel s and alpha sa, of the whole f
abbrev pub exact_both : ℕ → Op → ℕ → ℕ → ℕ → Exact → Exact
exact_both max op f s sa dest = record {
  value = exact_composite op f s sa (max * dest.whole) dest.value dest.alpha;
  alpha = exact_composite op f sa sa (max * dest.whole) dest.alpha dest.alpha;
  whole = f * dest.whole;
}

-- both after an effect
abbrev pub exact_step : ℕ → Exact → ChannelEffect → Exact
exact_step max dest (Replaced s sa) = record { value = s; alpha = sa; whole = 1 }
exact_step max dest (Composited op s sa) = exact_both max op max s sa dest
exact_step max dest (Matted op matte s sa) = exact_both max op (max * max) (s * matte) (sa * matte) dest

-- the exact run: both after a list of effects, from the same start
abbrev pub exact_run : ℕ → Rounded → List ChannelEffect → Exact
exact_run max start effects = fold (exact_step max) (record { value = start.channel; alpha = start.alpha; whole = 1 }) effects

-- the rounding budgets of a channel and its alpha: their greatest distance from the exact run,
-- counted in 1/fineness of a unit
pub record Budget : Type 0 where
  pub channel : ℕ
  pub alpha : ℕ

-- both budgets are n
abbrev pub both : ℕ → Budget
both n = record { channel = n; alpha = n }

-- The budgets after a composite of `count` products. A channel keeps its budget unless the
-- destination's coefficient is zero, and the alpha's budget is added where the source's reads it.
-- The alpha keeps its budget where either holds.
abbrev pub composite_budget : Op → ℕ → Budget → Budget
composite_budget op count budget = record {
  channel = count + enters (row op).dest * budget.channel + reads (row op).source * budget.alpha;
  alpha = count + max (enters (row op).dest) (reads (row op).source) * budget.alpha;
}

-- the budgets after an effect
abbrev pub budget_step : Budget → ChannelEffect → Budget
budget_step budget (Replaced s sa) = both 0
budget_step budget (Composited op s sa) = composite_budget op (product_count op) budget
budget_step budget (Matted op matte s sa) = composite_budget op (matted_count op) budget

-- the budgets after a list of effects
abbrev pub rounding_budget : List ChannelEffect → Budget
rounding_budget effects = fold budget_step (both 0) effects

-- how many products an effect takes
abbrev pub effect_count : ChannelEffect → ℕ
effect_count (Replaced s sa) = 0
effect_count (Composited op s sa) = product_count op
effect_count (Matted op matte s sa) = matted_count op

-- the premultiplied bound: twice the products of all effects
abbrev pub doubled_counts : List ChannelEffect → ℕ
doubled_counts effects = 2 * sum_by effect_count effects

-- The channel and the alpha of `made` are at most b and e from the exact ones, counted in
-- 1/fineness of a unit. Both sides are multiplied by fineness and by the whole, so that every
-- number is whole.
pub record AreWithin (b e : ℕ) (made : Rounded) (exact : Exact) : Type 0 where
  pub whole : 0 < exact.whole
  pub channel : Within (b * exact.whole) (fineness * (made.channel * exact.whole)) (fineness * exact.value)
  pub alpha : Within (e * exact.whole) (fineness * (made.alpha * exact.whole)) (fineness * exact.alpha)

-- `made` lies within the rounding budgets of the exact run
abbrev pub IsWithinBudget : ℕ → Rounded → List ChannelEffect → Rounded → Type 0
IsWithinBudget max start effects made = AreWithin (rounding_budget effects).channel (rounding_budget effects).alpha made (exact_run max start effects)

-- the source of a composite is premultiplied: its channel is at most its alpha
abbrev pub HasPremultipliedSource : ChannelEffect → Type 0
HasPremultipliedSource (Replaced s sa) = ⊤
HasPremultipliedSource (Composited op s sa) = s ≤ sa
HasPremultipliedSource (Matted op matte s sa) = s ≤ sa

-- where the sources of all composites are premultiplied, `made` lies within the premultiplied bound
-- of the exact run
abbrev pub IsWithinPremultipliedBound : ℕ → Rounded → List ChannelEffect → Rounded → Type 0
IsWithinPremultipliedBound max start effects made =
    All HasPremultipliedSource effects → AreWithin (doubled_counts effects) (doubled_counts effects) made (exact_run max start effects)

-- there is no matte
abbrev pub IsUnmatted : ChannelEffect → Type 0
IsUnmatted (Replaced s sa) = ⊤
IsUnmatted (Composited op s sa) = ⊤
IsUnmatted (Matted op matte s sa) = ⊥

-- the listed kinds: a clear, a copy, and a composite with a constant source
abbrev pub HasConstantSource : ChannelEffect → Type 0
HasConstantSource (Replaced s sa) = ⊤
HasConstantSource (Composited op s sa) = IsTrue (has_constant_source op)
HasConstantSource (Matted op matte s sa) = IsTrue (has_constant_source op)

-- both budgets are at most n
pub record AreAtMost (n : ℕ) (budget : Budget) : Type 0 where
  pub channel : budget.channel ≤ n
  pub alpha : budget.alpha ≤ n

-- After n effects with no matte the budgets are at most n * n + n, at most n where all are of
-- listed kinds, and the premultiplied bound is at most 4 * n.
pub record HasSmallBudget (effects : List ChannelEffect) : Type 0 where
  pub unmatted : All IsUnmatted effects → AreAtMost (length effects * length effects + length effects) (rounding_budget effects)
  pub constant_source : All IsUnmatted effects → All HasConstantSource effects → AreAtMost (length effects) (rounding_budget effects)
  pub doubled : All IsUnmatted effects → doubled_counts effects ≤ 4 * length effects
