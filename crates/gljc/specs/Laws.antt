-- What is proved of the frame: a correction as a record, and the demands.
pub mod Correction
pub mod Demands
