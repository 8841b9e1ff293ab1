pub mod OneReply
pub mod Packing
