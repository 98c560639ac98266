-- What is proved of the desk over lent bytes.
pub mod Fits
pub mod Changes
pub mod Rows
pub mod One
pub mod Taken
pub mod Refused
