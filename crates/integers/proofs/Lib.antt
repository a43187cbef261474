pub mod Naturals
pub mod Ring
pub mod Powers
pub mod Order
pub mod Least
pub mod First
pub mod Machine
pub mod Stores
