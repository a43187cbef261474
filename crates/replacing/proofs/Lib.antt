pub mod Pieces
pub mod Places
pub mod Stepping
pub mod Grays
pub mod OneLeaf
