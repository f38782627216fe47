pub mod VersionFacts
