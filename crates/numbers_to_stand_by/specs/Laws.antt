-- What is proved of the table.
pub mod Stands
