pub mod Logs
pub mod States
pub mod Stands
pub mod Theorems
