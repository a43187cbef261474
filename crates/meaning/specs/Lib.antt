pub mod Fractions
pub mod Truth
