pub mod Roads
pub mod Uses
pub mod Settled
