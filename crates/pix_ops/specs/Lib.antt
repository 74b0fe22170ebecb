pub use Rattle.pix_chan.specs.Number
pub use Rattle.pix_chan.specs.Product
pub use Rattle.pix_chan.specs.Runs
mod Seal
pub mod Operators
pub mod OperatorNames
pub mod Composite
pub mod ExactComposite
pub mod ExactRun
pub mod Hue
