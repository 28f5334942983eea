mod Listing
mod Whole
