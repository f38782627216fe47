pub mod ServedCalls
pub mod Turns
pub mod CarriedOut
