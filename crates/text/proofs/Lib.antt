-- What the proofs of the two loops cite.
mod Left
pub mod Laws
