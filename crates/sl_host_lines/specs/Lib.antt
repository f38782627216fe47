pub mod LineFacts
pub mod HoldingEnds
pub mod LeavingsBegin
pub mod Seats
pub mod CommandRefusals
pub mod ListMemory
pub mod ToldSessions
pub mod LastVersions
