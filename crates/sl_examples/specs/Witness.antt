pub mod Witness
pub mod QuietRun
