pub mod SizeLaws
pub mod FreshRecords
pub mod RoleLaws
