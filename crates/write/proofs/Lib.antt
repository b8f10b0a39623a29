pub mod CodeColumns
pub mod Sums
pub mod Tables
pub mod CodeTerms
pub mod CodeLines
pub mod Passes
pub mod Calls
pub mod Inputs
