pub mod Named
pub mod Built
pub mod Folding
pub mod Refined
