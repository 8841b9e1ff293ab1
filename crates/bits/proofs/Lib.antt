pub mod Cases
pub mod Laws
pub mod OneReply
mod Digits
