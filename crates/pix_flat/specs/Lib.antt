pub mod Format
pub mod FormatLaws
pub mod Command
pub mod Status
pub mod Run
pub mod Layout
