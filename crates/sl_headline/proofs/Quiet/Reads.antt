pub mod NewestIsRead
pub mod SameBytes
pub mod ReadsShowArea
