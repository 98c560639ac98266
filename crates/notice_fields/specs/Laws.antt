-- What is proved of them.
pub mod Kinds
pub mod Verdicts
pub mod Instances
pub mod Walking
pub mod Subtypes
pub mod PartsWalking
pub mod Shapes
pub mod Rows
pub mod Judging
pub mod Putting
