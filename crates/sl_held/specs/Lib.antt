pub mod HeldLaws
pub mod HeldRows
