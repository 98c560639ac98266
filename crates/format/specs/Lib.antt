-- The definitions that contracts cite, and in `Laws` what is proved of them for every layout.
pub mod Fmt
pub mod Refusals
pub mod Words
pub mod Groups
pub mod Message
pub mod Codes
pub mod Promises
pub mod Sealing
pub mod Settled
pub mod Places
pub mod Correcting
pub mod Laws
