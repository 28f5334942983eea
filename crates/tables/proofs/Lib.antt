pub mod Firsts
pub mod Entries
