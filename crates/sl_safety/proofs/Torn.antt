pub mod TornPairs
pub mod TornBlocksNamed
pub mod PairsStand
