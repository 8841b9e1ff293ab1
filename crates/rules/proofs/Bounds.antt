pub mod Delays
pub mod Judgement
pub mod Reach
pub mod Routes
pub mod Sizes
