pub mod WritingLaws
pub mod ReadLaws
pub mod EventLaws
pub mod HeaderReadLaws
pub mod HeaderLaws
pub mod ScheduleLaws
pub mod SizeLaws
