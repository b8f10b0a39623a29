pub mod Flips
pub mod Extend
pub mod Words
pub mod Sign
