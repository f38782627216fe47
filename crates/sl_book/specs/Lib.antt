pub mod Shelves
pub mod Logs
pub mod Books
pub mod Seats
pub mod Closings
pub mod Mails
