pub mod Premises
pub mod PremisesTell
