pub mod GrantLaws
pub mod ModeLaws
pub mod ValueLaws
