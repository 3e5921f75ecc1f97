pub mod Entries
pub mod Filled
pub mod Judged
pub mod Largest
pub mod Sections
pub mod Verdicts
