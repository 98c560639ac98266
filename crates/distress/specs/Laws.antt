-- What is proved of the report: where its fields accept its size is right, the demands, a correction as a record.
pub mod Sound
pub mod Demands
pub mod Correction
