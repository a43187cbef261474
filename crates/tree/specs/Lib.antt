pub mod Visit
pub mod Solid
pub mod Walk
pub mod Sinks
