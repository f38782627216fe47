pub mod ShownHoldings
pub mod WholeLines
