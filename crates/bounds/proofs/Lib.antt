pub mod Ceil
pub mod Read
pub mod Those
pub mod Hops
pub mod Wires
pub mod Walk
pub mod Order
pub mod OneReply
