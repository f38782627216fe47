pub mod MembersAreSessions
pub mod AtInput
