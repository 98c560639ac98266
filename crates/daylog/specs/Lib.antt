-- The day log: its records and kinds, the lines of its listing, what the calls promise, and in `Laws` what is proved of them.
pub mod Log
pub mod Records
pub mod Kinds
pub mod Words
pub mod Text
pub mod LinesText
pub mod Stores
pub mod Promises
pub mod Turns
pub mod Run
mod Examples
pub mod Laws
