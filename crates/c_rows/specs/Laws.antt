-- What a promise to fill a row decides, and how a call meets it.
pub mod Row
pub mod Signed
pub mod Sentence
pub mod Demands
pub mod Packet
pub mod Notice
pub mod Making
pub mod Refused
pub mod Tide
pub mod Readings
