-- The laws of a type of channels, in terms of the number that each value stands for.
use Rattle.std.specs.Prelude.{◌≡◌, ℕ, ◌≤◌}
use Rattle.std.proofs.Common.{subst}

-- no number is above the maximum, and values of the same number are the same value
pub record IsNumbered {C : Type 0} (max : ℕ) (number : C → ℕ) : Type 0 where
  pub fits : (x : C) → number x ≤ max
  pub injective : (x y : C) → number x ≡ number y → x ≡ y

-- an operator may be used on every two values
abbrev pub IsTotal : {C : Type 0} → (C → C → Type 0) → Type 0
IsTotal {C} can = (x y : C) → can x y

-- the result of an operator is a function of the two numbers
abbrev pub Answers : {C : Type 0} → (C → ℕ) → (C → C → C → Type 0) → (ℕ → ℕ → ℕ) → Type 0
Answers {C} number gives f = (x y r : C) → gives x y r → number r ≡ f (number x) (number y)

-- the result of an operator for an operand that the channel is From: the function of the two
-- channels' numbers
abbrev pub AnswersFrom : {R C : Type 0} → (R → C → Type 0) → (C → ℕ) → (ℕ → ℕ → ℕ) → C → R → C → Type 0
AnswersFrom {R} {C} from number f x y r = (z : C) × from y z × (number r ≡ f (number x) (number z))

-- .. where the operand is a channel itself
pub answers_itself : {C : Type 0} (number : C → ℕ) (f : ℕ → ℕ → ℕ) → Answers number (AnswersFrom (λ (x y : C). y ≡ x) number f) f
answers_itself number f x y r (z, e, h) = subst (λ w. number r ≡ f (number x) (number w)) e h
