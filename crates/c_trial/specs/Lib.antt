-- What the calls promise that only `rust/trial` links; then the laws.
pub mod Promises
pub mod Laws
