-- What is proved of slots.
pub mod Slots
