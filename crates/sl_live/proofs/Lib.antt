pub mod TurnLaws
pub mod RecordLaws
pub mod ServedLaws
pub mod WorkLaws
pub mod CarriedLaws
