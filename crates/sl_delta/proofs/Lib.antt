pub mod RecordRules
pub mod WatchLaws
pub mod StandsLaws
pub mod EnoughLaws
pub mod PurposeLaws
