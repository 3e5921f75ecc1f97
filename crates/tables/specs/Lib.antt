pub mod Openness
pub mod Share
pub mod Table
pub mod Computed
pub mod ShareSound
