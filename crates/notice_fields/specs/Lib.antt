-- The fields of a notice that have several parts: areas, expiry and angles; their layouts, the areas as a row, what the code's steps answer, and in `Laws` that these are what reading and writing say.
pub mod Areas
pub mod Parts
pub mod Row
pub mod Spots
pub mod Standing
pub mod Steps
pub mod Terms
pub mod PartsSteps
pub mod Shapes
pub mod Making
pub mod Laws
