-- The outline of a notice: what it is, what the call promises, the points as they stand in the bits; and in `Laws` what is proved of them.
pub mod Outline
pub mod Promises
pub mod Standing
mod Examples
pub mod Angles
pub mod Laws
