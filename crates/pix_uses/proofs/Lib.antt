-- The files of lemmas. Answers, invariants and proofs of a function are found by its path.
pub mod Reached
pub mod Points
pub mod Within
pub mod Steps
pub mod Grays
pub mod Lossless
pub mod LightAndBack
pub mod PicturesBack
