pub mod Bounds
pub mod States
pub mod Entries
pub mod Held
