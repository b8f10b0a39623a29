pub mod Table
pub mod Bench
pub mod Agreed
