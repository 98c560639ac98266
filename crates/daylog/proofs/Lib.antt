-- What the proofs of the functions cite.
mod Listing
mod Turning
pub mod Laws
