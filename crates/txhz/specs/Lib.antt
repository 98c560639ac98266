-- The frame TXHZ: its layout and record, what may be corrected, the promises, and in `Laws` what is proved of them.
pub mod Txhz
pub mod Changed
pub mod Promises
pub mod Steps
mod Examples
pub mod Laws
