-- Lemmas of error diffusion.
pub mod ScanOrders
pub mod WholeErrors
pub mod Diffused
pub mod NearErrors
pub mod ErrorBounds
