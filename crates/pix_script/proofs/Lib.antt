-- The files of lemmas. Answers, invariants and proofs of a function are found by its path.
pub mod NumberLemmas
pub mod DigitLemmas
pub mod LineLemmas
pub mod CheckLemmas
pub mod WordLemmas
pub mod PictureLemmas
pub mod DrawLemmas
pub mod ReadingLemmas
pub mod OutcomeLemmas
pub mod StopLemmas
pub mod ReportLemmas
pub mod RowLemmas
