pub mod Requests
pub mod BitmapLaws
