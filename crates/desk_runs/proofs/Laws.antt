-- What is proved of the definitions.
pub mod Arrives
pub mod BytesDemand
pub mod Demand
pub mod Follows
pub mod Older
pub mod Parts
pub mod Split
pub mod Steps
pub mod Takes
