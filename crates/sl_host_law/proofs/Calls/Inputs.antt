pub mod InputHeard
pub mod ChildrenHear
pub mod LineBegins
pub mod LineHeard
pub mod LineAnswered
