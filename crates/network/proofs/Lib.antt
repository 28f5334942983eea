pub mod Reading
pub mod Circulations
pub mod Worths
pub mod Fitting
