pub mod ByKind
pub mod FaceKind
pub mod Marked
pub mod Marks
pub mod MarksAmong
pub mod Listed
pub mod Walking
