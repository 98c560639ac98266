-- What rests on the definitions.
pub mod Laws
