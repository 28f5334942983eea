pub mod Records
pub mod Layout
pub mod Runs
pub mod Render
