-- What is proved of the frame: a correction as a record, the demands, and the content shown.
pub mod Correction
pub mod Demands
pub mod Shown
