pub mod Bitmaps
pub mod FieldBytes
pub mod Records
pub mod SectorLayouts
pub mod Laws
pub mod RecordTexts
pub mod Images
