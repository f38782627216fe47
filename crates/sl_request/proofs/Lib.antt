pub mod ByteFacts
pub mod BitmapFacts
pub mod OrderFacts
