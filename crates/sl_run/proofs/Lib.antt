pub mod FirstWorld
pub mod LawFacts
pub mod PlainAreas
