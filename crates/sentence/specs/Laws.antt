-- What the calls' steps say, and the demands.
pub mod Calls
pub mod Demands
pub mod Tests
pub mod Parts
pub mod Front
pub mod Digits
pub mod Hex
pub mod Turns
