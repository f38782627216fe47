pub mod LawfulFronts
