-- The files of lemmas. Answers, invariants and proofs of a function are found by its path.
pub mod FourChannels
pub mod Steps
pub mod ModelsByName
pub mod Parts
pub mod Table
pub mod Bitmaps
pub mod RowConversions
pub mod LitFours
pub mod Recolorings
pub mod RecoloredRows
pub mod ConvertedPixels
pub mod ConvertedAhead
pub mod ShownFours
