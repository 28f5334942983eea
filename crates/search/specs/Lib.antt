pub mod Outcomes
pub mod Uses
pub mod Links
pub mod Ascents
pub mod Sweeps
pub mod Passes
pub mod Cycles
pub mod Searches
