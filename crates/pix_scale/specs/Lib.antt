pub mod Axis
pub mod Table
pub mod Call
pub mod Signed
pub mod SignedTable
pub mod SignedCall
pub mod Weighted
pub mod WeightedCall
