pub mod Split
pub mod Reach
pub mod Choose
pub mod Order
pub mod Form
pub mod Rules
