pub mod Digits
pub mod Enough
pub mod Laid
