pub mod Number
pub mod RoundTrip
pub mod Value
pub mod Signed
pub mod Refusals
pub mod Order
pub mod Room
