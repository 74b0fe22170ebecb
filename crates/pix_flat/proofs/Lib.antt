-- The files of lemmas. Answers, invariants and proofs of a function are found by its path.
pub mod Faults
pub mod Images
pub mod Channels
pub mod Narrow
pub mod Ran
