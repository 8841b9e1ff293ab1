pub mod Columns
pub mod Incident
pub mod Laws
pub mod Search
pub mod Told
