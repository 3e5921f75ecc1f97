pub mod Faults
pub mod Image
pub mod Judging
pub mod Loaded
pub mod LoadedSound
pub mod Reading
pub mod Texts
