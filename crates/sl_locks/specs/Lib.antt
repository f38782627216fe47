pub mod Lines
pub mod Kinds
pub mod Asks
pub mod Replies
pub mod Tables
pub mod Steps
pub mod Ends
