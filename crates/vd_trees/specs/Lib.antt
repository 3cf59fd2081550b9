pub mod Words
pub mod Identifiers
pub mod Traces
pub mod Paths
pub mod ValueTexts
pub mod TraceText
pub mod TraceExamples
