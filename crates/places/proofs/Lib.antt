-- What the proofs of a place's entries cite.
mod Entries
mod Listed
pub mod Laws
