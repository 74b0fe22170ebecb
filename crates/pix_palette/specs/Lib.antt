pub mod Palette
pub mod Histogram
pub mod Indexing
pub mod ColorTable
pub mod Finder
pub mod Entries
pub mod RgbaTable
