-- An area, message 6 with application 412/11: its layout and record, the two shapes, what may be corrected, the promises, and in `Laws` what is proved of them.
pub mod Area
pub mod Shapes
pub mod Changed
pub mod Promises
pub mod Steps
mod Examples
pub mod Laws
