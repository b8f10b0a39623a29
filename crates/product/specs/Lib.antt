pub mod Bit
pub mod Column
pub mod Lines
pub mod Product
pub mod Write
pub mod Renaming
pub mod Demand
pub mod ByLine
