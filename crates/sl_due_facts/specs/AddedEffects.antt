pub mod CallIsLawful
pub mod OneMoreEffect
pub mod EffectLaws
