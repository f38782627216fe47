pub mod LooksStay
pub mod NewHost
pub mod PartsAreTaken
pub mod EffectsAreTaken
pub mod StepsAreOver
pub mod StepQuestions
pub mod Pairs
