pub mod TopLaws
pub mod LeftBehind
pub mod ToldLaws
pub mod RecordFacts
pub mod NextLaws
pub mod KnownLaws
pub mod SameLaws
pub mod ReadLaws
