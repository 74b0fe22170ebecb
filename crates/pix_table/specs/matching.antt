-- Definitions of the nearest entries of colors.
pub mod Nearest
pub mod SeenLanes
pub mod InverseMap
pub mod FoundColors
pub mod BlockGaps
pub mod BlockBounds
pub mod Lanes
pub mod EntryLanes
pub mod SeenMatches
pub mod NearBlocks
