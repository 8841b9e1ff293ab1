pub mod OneReply
pub mod Settled
