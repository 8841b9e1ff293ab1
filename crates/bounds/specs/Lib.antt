pub mod Stages
pub mod Filed
