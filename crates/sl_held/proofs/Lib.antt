pub mod HoldingsMove
pub mod LinesRead
pub mod LinesTell
pub mod StepsTold
