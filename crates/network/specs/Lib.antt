pub mod Networks
pub mod Pushes
pub mod Circulations
pub mod Potentials
