-- Definitions of error diffusion.
pub mod ErrorBound
pub mod Diffusion
pub mod Done
pub mod SeenDiffusion
pub mod NearLaws
