pub mod Code
pub mod Gate
