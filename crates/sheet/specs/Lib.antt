pub mod Table
pub mod Records
pub mod Operands
pub mod Check
pub mod Along
pub mod StepRoom
