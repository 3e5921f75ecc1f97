pub mod Arrivals
pub mod Graph
pub mod Narrowed
pub mod Nodes
pub mod Routes
pub mod Searching
pub mod Texts
