pub mod Lookup
pub mod Inner
