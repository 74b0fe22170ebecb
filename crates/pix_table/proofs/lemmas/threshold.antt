-- Lemmas of colors that are set or found within a threshold.
pub mod SmallBlocks
pub mod PaletteMatches
pub mod Settings
pub mod CachedColors
pub mod IndexingSets
pub mod OneAnswer
pub mod ColorBlockLemmas
