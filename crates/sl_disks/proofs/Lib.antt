pub mod FirstRecords
pub mod InitialLaws
pub mod TableLaws
pub mod DiskLaws
