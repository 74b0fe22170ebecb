-- Definitions of colors that are set or found within a threshold.
pub mod PaletteMatch
pub mod Setting
pub mod Indexing
pub mod ColorCache
pub mod TableBlocks
pub mod ColorBlocks
