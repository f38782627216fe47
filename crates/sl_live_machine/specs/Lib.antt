pub mod ThreadSeats
pub mod ThreadTurns
pub mod ServedActs
pub mod ServedDisks
pub mod Printing
pub mod MachineEnds
