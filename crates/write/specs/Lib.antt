pub mod Sizes
pub mod Column
pub mod Terms
pub mod Rooms
