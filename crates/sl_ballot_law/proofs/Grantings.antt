pub mod TwoGrants
pub mod GrantsMeet
