pub mod Instances
pub mod FunctionInstances
pub mod Links
pub mod NestedViews
pub mod Facts
