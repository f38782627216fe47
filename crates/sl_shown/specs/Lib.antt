pub mod ShownHoldings
