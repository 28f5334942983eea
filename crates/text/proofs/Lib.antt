pub mod Cuts
pub mod Faults
pub mod Parsing
pub mod Puts
pub mod Rows
