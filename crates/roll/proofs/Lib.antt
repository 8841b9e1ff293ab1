pub mod Ends
pub mod OneReply
