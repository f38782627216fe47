pub mod SessionLaws
pub mod SessionsFollow
