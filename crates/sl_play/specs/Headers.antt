pub mod HeaderLaw
