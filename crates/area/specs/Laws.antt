-- What is proved of an area: its angles and its shape read and judged, what its fields accept is right, the record of what the code read, a correction as a record, the demands.
pub mod Walking
pub mod Sound
pub mod Told
pub mod Correction
pub mod Demands
