pub mod Least
pub mod First
