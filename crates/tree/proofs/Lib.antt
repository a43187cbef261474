pub mod Visits
pub mod Cubes
pub mod Rows
pub mod Walking
