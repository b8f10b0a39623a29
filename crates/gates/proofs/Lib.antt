pub mod Codes
pub mod Stores
pub mod GateWords
pub mod Given
