pub mod Times
pub mod Readings
