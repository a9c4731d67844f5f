pub mod FirstRuns
