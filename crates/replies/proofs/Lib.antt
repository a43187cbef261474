pub mod Mapped
pub mod Numbers
pub mod Told
