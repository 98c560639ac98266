-- What is proved of runs.
pub mod Parts
pub mod Stands
pub mod Told
pub mod Counts
pub mod Takes
pub mod Older
pub mod Follows
pub mod BytesDemand
pub mod Arrives
