-- A warning, message 8 with application 412/03: its layout and record, the five bodies, what may be corrected, the promises, and in `Laws` what is proved of them.
pub mod Warning
pub mod Bodies
pub mod Changed
pub mod Promises
pub mod Steps
mod Examples
pub mod Laws
