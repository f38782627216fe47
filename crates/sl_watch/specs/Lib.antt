pub mod Laws
pub mod Reasons
pub mod SeenLooks
pub mod Summaries
pub mod ToldLooks
pub mod Watches
