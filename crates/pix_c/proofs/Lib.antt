-- The files of lemmas. Answers of a function are found by its path.
pub mod Transparent
