pub mod HostServes
pub mod ExpectedInputs
pub mod StepMemory
pub mod InputReach
pub mod Moments
pub mod JoiningSeats
pub mod AwaitedCalls
pub mod SpareRoom
