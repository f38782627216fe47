pub mod MachineBeginnings
pub mod LivePlayOwed
pub mod ListLengths
pub mod ShortReplies
