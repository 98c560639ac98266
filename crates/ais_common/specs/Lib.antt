-- What both AIS messages share: the first tests of a head, the times; and in `Laws` what is proved of them.
pub mod Lead
pub mod Time
pub mod Steps
pub mod Laws
