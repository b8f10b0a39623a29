pub mod Clause
pub mod Pass
pub mod Promise
