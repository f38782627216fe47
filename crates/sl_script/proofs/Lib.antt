pub mod NumberedOn
pub mod ScriptsFollow
