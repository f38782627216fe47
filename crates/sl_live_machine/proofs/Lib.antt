pub mod SeatLaws
pub mod WorkChains
pub mod StartChains
pub mod RunLaws
pub mod PrintLaws
pub mod EndLaws
