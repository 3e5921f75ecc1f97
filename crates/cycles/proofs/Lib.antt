pub mod Begins
pub mod Marking
pub mod Paths
pub mod Turning
pub mod Turns
