pub mod ReadsShowArea
