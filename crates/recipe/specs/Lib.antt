pub mod Check
pub mod Accepted
pub mod Refused
