pub mod Growing
pub mod Lists
pub mod Marking
pub mod Paths
pub mod Routing
pub mod Sets
