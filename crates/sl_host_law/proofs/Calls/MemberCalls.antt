pub mod KnownMore
pub mod LeaseMore
pub mod SpotsMore
pub mod LeasesMore
pub mod ValuesMore
pub mod MemberMore
pub mod KeepsMore
pub mod PresentMore
