pub mod CallsStay
