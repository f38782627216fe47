pub mod Initial
pub mod Disks
