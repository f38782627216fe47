-- What stands behind the modes of grants and blocks.
pub mod FitsHolding
pub mod LeasesFit
pub mod CallsFit
pub mod SharedStands
pub mod SharedGrants
pub mod ModesAreLawful
