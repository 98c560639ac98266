-- Runs of calls at the desk: their definitions, and in `Laws` demand 2 of them.
pub mod Runs
pub mod Taking
pub mod Sending
mod Examples
pub mod Lent
pub mod Laws
