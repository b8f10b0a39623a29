pub mod Decimal
pub mod Request
pub mod File
pub mod Print
