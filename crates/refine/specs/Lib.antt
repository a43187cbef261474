pub mod Refine
pub mod Leaves
