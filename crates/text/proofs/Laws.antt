-- What is proved of text.
pub mod Clean
