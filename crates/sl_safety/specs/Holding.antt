pub mod HoldingOrigins
pub mod Holders
