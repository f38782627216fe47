pub mod PremisesSuffice
pub mod PremiseSearches
pub mod DueRedone
pub mod CrowdedFails
pub mod PremisesTell
