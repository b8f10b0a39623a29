pub mod Limits
pub mod Number
pub mod Line
pub mod Refusal
pub mod Order
