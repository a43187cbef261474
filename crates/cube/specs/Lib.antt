pub mod Limits
pub mod Cubes
pub mod Points
