pub mod KeptLaws
pub mod MappedLists
pub mod MoveLaws
pub mod TestLaws
