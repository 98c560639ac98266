-- What is proved of times: a record and its number are one another's, and where the code stands behind a time.
pub mod Spelling
pub mod Walking
pub mod Sound
