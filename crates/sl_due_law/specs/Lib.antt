pub mod Recovery
pub mod Causes
pub mod LawfulTraces
