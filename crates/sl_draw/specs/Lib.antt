pub mod Captions
pub mod Drawings
pub mod Draws
