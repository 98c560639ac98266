-- AIS: both messages with their layouts, records, promises and demands; a message of either kind; slots.
pub mod Warnings
pub mod Areas
pub mod Ais
mod Examples
pub mod Slots
mod SlotCountExamples
pub mod Laws
