pub mod JobLaws
pub mod Acquires
