-- The files of lemmas. Answers, invariants and proofs of a function are found by its path.
pub mod Narrow
pub mod Nearest
pub mod Shares
pub mod ShortSums
pub mod Sums
