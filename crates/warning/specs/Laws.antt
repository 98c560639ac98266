-- What is proved of a warning: of every kind of body, what its fields accept is right, the record of what the code read, a correction as a record, the demands.
pub mod Walking
pub mod Sound
pub mod Told
pub mod Correction
pub mod Demands
