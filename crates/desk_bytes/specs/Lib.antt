-- The desk's places as lent bytes: definitions and promises, and in `Laws` what is proved of them.
pub mod Bytes
pub mod Promises
pub mod Laws
