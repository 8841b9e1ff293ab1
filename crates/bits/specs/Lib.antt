pub mod Field
pub mod Around
