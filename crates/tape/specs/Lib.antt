pub mod Memory
pub mod Working
pub mod Shortening
pub mod Lent
pub mod Listing
