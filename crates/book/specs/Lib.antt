pub mod Spelling
pub mod Rows
pub mod Books
pub mod Allotments
pub mod Arcs
pub mod Agreement
