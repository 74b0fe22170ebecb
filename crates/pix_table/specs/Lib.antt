pub mod matching
pub mod threshold
pub mod quantization
pub mod diffuse
pub mod packing
pub mod SeenPixels
pub mod SrgbColor
