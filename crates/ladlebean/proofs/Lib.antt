pub mod Apart
pub mod Once
pub mod Bench
pub mod Demands
pub mod OurWords
pub mod Calls
pub mod PlannedLines
pub mod CallDemands
