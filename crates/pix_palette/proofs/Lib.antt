-- The files of lemmas. Answers, invariants and proofs of a function are found by its path.
pub mod HistogramLemmas
pub mod IndexingSets
pub mod IndexingLaws
pub mod Thresholds
pub mod Mapped
pub mod QuantizedTables
pub mod Finders
pub mod PaletteBlocksMore
pub mod Entries
pub mod Cells
pub mod NoPoints
