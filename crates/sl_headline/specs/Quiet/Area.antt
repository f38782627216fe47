pub mod PlacesStay
pub mod CalmAreas
