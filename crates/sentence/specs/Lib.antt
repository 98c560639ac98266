-- The distress sentence: its layout and promises, the pattern around a report, its digits, and in `Laws` what is proved of them.
pub mod Sentence
pub mod Pattern
pub mod Spelling
mod Examples
pub mod Laws
