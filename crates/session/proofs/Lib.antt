pub mod Playing
pub mod Printed
