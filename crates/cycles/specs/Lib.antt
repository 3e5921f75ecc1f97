pub mod Finding
pub mod Found
pub mod Search
