-- What text is.
pub mod Text
mod Examples
