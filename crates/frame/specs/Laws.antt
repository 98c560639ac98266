-- What is proved of every serial frame: its head read, judged and put, that it is sound, its content, and what is told beside that.
pub mod Head
pub mod Sound
pub mod Content
pub mod Alone
