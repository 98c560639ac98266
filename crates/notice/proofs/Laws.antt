-- What is proved of the definitions.
pub mod Correction
pub mod Demands
pub mod Refused
pub mod Told
pub mod WritingDemands
