pub mod Candidates
pub mod DrawnRuns
pub mod GeneratorPlay
pub mod HeaderLines
pub mod GeneratedIsPlain
pub mod TimelyWorlds
