-- A serial frame of any kind: what reading it answers.
pub mod Serial
mod Examples
