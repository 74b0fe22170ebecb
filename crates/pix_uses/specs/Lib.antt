pub mod Rgba
pub mod Pictures
pub mod Photos
pub mod Light
