-- What is proved of the places and the desk's definitions.
pub mod Below
pub mod Four
pub mod Alike
pub mod Laid
pub mod Good
pub mod Listed
pub mod Joined
pub mod Front
pub mod Outcomes
pub mod Row
pub mod Taken
pub mod Ends
pub mod One
