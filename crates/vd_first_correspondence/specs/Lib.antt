pub mod Laws
pub mod Relations
pub mod SameRuns
pub mod SameTraces
pub mod WholeMaps
