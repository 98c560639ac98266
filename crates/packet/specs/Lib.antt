-- The packet: its layout and record, what may be corrected, the promises, and in `Laws` what is proved of them. The splitter likewise.
pub mod Packet
pub mod Changed
pub mod Promises
mod Examples
pub mod Splitter
pub mod SplittingPromises
mod SplittingExamples
pub mod Laws
