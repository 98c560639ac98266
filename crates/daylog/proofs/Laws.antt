-- What is proved of the definitions.
pub mod Runs
pub mod Windows
