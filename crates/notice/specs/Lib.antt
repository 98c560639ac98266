-- The notice: its layout and record, what may be corrected, the promises, and in `Laws` what is proved of them.
pub mod Notice
pub mod Record
pub mod Changed
pub mod Promises
pub mod WritingPromises
pub mod Steps
pub mod Making
mod Examples
pub mod Laws
