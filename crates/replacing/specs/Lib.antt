pub mod Replace
pub mod Walk
