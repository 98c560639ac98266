-- What is proved of the definitions.
pub mod Refused
pub mod Row
pub mod Taken
