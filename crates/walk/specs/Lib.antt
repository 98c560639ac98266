-- What the walk answers, and in `Laws` that this is what reading and writing say.
pub mod Walk
pub mod Reading
pub mod Judging
pub mod Sign
pub mod Faults
pub mod Pieces
pub mod Groups
pub mod Rows
pub mod Laws
