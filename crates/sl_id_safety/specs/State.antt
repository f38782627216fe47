pub mod IdStates
pub mod Facts
pub mod StateLaws
