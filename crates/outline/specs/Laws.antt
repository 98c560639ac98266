-- What is proved of them.
pub mod Outlines
pub mod Angles
