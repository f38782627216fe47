pub mod EndsFinish
pub mod EventsHappen
pub mod PlayIsOwed
mod UntoldEvents
mod LinesAndAsks
mod Texts
pub mod ReplaysAreOwed
pub mod LinesPlayed
pub mod ReportsShift
pub mod Headers
