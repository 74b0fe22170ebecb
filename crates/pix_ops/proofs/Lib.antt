-- The files of lemmas. Answers, invariants and proofs of a function are found by its path.
pub mod Within
pub mod Table
pub mod Terms
pub mod Near
pub mod WithinAlpha
pub mod Transparent
pub mod Hue
pub mod ExactSteps
pub mod Budgets
pub mod RunSteps
pub mod Balance
pub mod RunBounds
pub mod RunRows
pub mod RunTerms
