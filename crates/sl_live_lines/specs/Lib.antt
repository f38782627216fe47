pub mod LocksAlong
pub mod EventTexts
pub mod LiveTexts
pub mod AuditedHistory
