-- The places of the desk and its calls: their definitions, and in `Laws` what is proved of them.
pub mod Places
pub mod Replies
pub mod Desk
pub mod Promises
pub mod Laws
