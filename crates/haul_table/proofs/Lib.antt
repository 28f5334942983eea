pub mod Pushing
pub mod Growing
pub mod Admitting
pub mod Standing
