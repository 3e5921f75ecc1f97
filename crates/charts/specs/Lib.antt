pub mod Accepting
pub mod Slots
