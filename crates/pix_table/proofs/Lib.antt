-- The files of lemmas. Answers and invariants of a function are found by its path.
pub mod lemmas
pub mod Writes
pub mod Below
pub mod Rows
pub mod BitLemmas
pub mod SeenColors
