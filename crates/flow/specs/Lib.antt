pub mod Groups
pub mod Graphs
pub mod Steps
pub mod Arcs
pub mod Optimality
