pub mod BoundsHold
pub mod StatesSound
pub mod Substitutes
