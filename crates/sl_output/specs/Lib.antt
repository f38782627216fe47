pub mod Pieces
pub mod Outputs
