pub mod Faces
pub mod Offsets
