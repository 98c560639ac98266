-- What the proofs of places from bytes, and back, cite.
mod Stored
