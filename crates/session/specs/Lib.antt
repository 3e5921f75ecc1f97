pub mod Answers
pub mod Replays
pub mod Sessions
pub mod Telling
pub mod Texts
