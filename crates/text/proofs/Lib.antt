pub mod Digits
pub mod Signs
pub mod Storing
pub mod Lines
pub mod Rows
