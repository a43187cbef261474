pub mod Rules
pub mod Limit
pub mod Claims
pub mod Inner
