pub mod CalmGoesOn
pub mod OpenCalls
pub mod PlacesStay
pub mod WritesAreWork
