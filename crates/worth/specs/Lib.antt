pub mod Kinds
pub mod Money
pub mod Weeks
pub mod Lexicographic
pub mod Pairs
pub mod Integers
