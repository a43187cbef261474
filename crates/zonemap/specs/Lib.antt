pub mod Map
pub mod Opening
pub mod Leaves
pub mod StepRoom
pub mod Inner
