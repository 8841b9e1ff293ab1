pub mod Answers
pub mod Columns
pub mod OneReply
