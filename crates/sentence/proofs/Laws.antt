-- What is proved of the definitions.
pub mod Calls
pub mod Demands
pub mod Parts
