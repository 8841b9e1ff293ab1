pub mod OneReply
pub mod Placed
