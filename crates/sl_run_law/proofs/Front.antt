pub mod JoinedLists
pub mod RunsFromFronts
