pub mod FoundRuns
pub mod OneRun
