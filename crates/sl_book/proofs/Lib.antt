pub mod Fronts
pub mod Adding
pub mod Givens
pub mod SeatLaws
pub mod Counts
pub mod MailLaws
