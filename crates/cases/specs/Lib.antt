pub mod Calls
pub mod Clearing
pub mod Texts
pub mod Chain
pub mod Resale
pub mod Market
pub mod Cases
