pub mod Closing
pub mod Telling
pub mod Walking
