pub mod Archive
pub mod OurWords
