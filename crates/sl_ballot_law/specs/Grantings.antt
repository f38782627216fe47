pub mod Holdings
pub mod GrantPromises
