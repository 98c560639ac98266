-- What is proved of the frame: one receipt read, judged and put, a correction as a record, and the demands.
pub mod Receipts
pub mod Correction
pub mod Demands
