-- The frame TXXX: its layout and record, what may be corrected, the promises, and in `Laws` what is proved of them.
pub mod Txxx
pub mod Changed
pub mod Promises
mod Examples
pub mod Laws
