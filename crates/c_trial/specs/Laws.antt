-- Laws on what the calls promise.
pub mod Same
