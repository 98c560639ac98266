-- What the serial frames share: their definitions, and in `Laws` what is proved of them.
pub mod Frame
pub mod Steps
pub mod Laws
