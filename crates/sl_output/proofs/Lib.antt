pub mod OutputLaws
pub mod PutLaws
