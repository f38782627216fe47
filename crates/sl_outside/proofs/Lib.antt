pub mod MemDiskLaws
pub mod ChildLaws
pub mod ActLaws
