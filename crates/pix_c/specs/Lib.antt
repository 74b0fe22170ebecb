pub mod Scale
pub mod ScaleBy
pub mod Table
