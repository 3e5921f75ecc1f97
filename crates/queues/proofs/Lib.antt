pub mod Agreeing
pub mod Moving
pub mod Turning
