pub mod Cases
pub mod Claims
pub mod Judged
pub mod Walk
pub mod Accepted
pub mod Refused
