pub mod KeptConnections
pub mod Moves
