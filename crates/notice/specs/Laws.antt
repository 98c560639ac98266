-- What is proved of them.
pub mod Sound
pub mod Opening
pub mod Closing
pub mod Told
pub mod Listed
pub mod Correction
pub mod Demands
pub mod Judging
pub mod Writing
pub mod WritingDemands
