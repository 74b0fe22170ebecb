-- Definitions of indices in bytes, and from indices back to colors.
pub mod LookUp
pub mod Packing
