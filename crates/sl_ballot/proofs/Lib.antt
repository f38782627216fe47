pub mod NumberLaws
pub mod NumberRules
pub mod ReadLaws
pub mod RiseLaws
pub mod ReadRules
pub mod ValueLaws
pub mod RecordLaws
