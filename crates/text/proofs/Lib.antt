pub mod Judged
pub mod OneReply
pub mod Rows
pub mod Turns
