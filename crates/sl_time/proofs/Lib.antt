pub mod UsualTimes
