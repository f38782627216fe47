pub mod CallStamps
pub mod Mirrors
pub mod CourseLaws
