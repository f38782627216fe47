pub mod IdleEntry
pub mod MemberBegun
pub mod QuietBegun
pub mod NothingIsDue
