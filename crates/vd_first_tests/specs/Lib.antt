pub mod Example
pub mod ExampleTraces
