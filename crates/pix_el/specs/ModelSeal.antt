-- The seal of color models, which the crate of the other models names too; `pix` does not pass it
-- on.

-- what a color model of this library has
pub data ModelSeal (T : Type 0) : Type 0 where
  model_seal : ModelSeal T
