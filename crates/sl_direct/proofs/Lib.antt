pub mod DiskLaws
pub mod FreshLaws
pub mod LineLaws
pub mod UpgradeLaws
pub mod UpgradeTold
pub mod LookLaws
pub mod ActLaws
pub mod AreaLaws
