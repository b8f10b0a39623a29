pub mod Sizes
pub mod Put
pub mod Puts
pub mod Steps
