-- What is proved of the packet: its record alone, that its layout is sound, a correction as a record, the demands, and the content shown.
pub mod Heads
pub mod Sound
pub mod Correction
pub mod Demands
pub mod Shown
pub mod Accepted
pub mod Packets
