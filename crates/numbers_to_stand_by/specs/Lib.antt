-- The numbers to stand by of paper 01, and in `Laws` that each of them is what the definitions answer.
pub mod Cases
pub mod Table
pub mod Laws
