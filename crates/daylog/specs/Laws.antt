-- What is proved of the definitions and of the promises.
pub mod Windows
pub mod Turns
pub mod Runs
pub mod Through
pub mod Refusals
pub mod LastColumn
pub mod Answers
pub mod Text
pub mod Made
pub mod Records
