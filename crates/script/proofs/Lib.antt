pub mod Cutting
pub mod Ending
pub mod Fronts
pub mod Pairing
pub mod ReadingBack
pub mod Standing
pub mod Valued
