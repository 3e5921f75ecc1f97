pub mod Calls
pub mod Memory
pub mod Queue
pub mod Refusals
pub mod Texts
