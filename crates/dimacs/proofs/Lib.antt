pub mod Place
pub mod Digits
pub mod Shown
pub mod Planning
