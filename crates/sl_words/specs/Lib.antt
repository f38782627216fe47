pub mod Words
pub mod Orders
pub mod Results
pub mod Bounds
pub mod Laws
pub mod Tables
pub mod RoomyLists
