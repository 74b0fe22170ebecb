-- The seal of a trait. Only this crate names it, so that no type of another crate can have the
-- trait.

-- what a type of this crate has
pub data Seal (T : Type 0) : Type 0 where
  seal : Seal T
