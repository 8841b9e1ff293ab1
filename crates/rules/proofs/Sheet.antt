pub mod Accepted
pub mod Asking
pub mod Fits
pub mod Fitting
pub mod Laws
pub mod Putting
pub mod Replies
pub mod Written
