pub mod BarsBegin
pub mod BarsStay
mod DrawnElements
pub mod LinesMove
mod PushedTexts
