pub mod CallsBelow
pub mod NewSession
