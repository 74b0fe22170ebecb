-- Lemmas by their subjects.
pub mod matching
pub mod threshold
pub mod quantization
pub mod diffuse
