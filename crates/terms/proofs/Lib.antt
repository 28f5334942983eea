pub mod Spots
pub mod Tests
