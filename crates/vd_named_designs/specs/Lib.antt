pub mod Trees
pub mod Instances
pub mod FunctionInstances
pub mod NestedViews
pub mod Links
pub mod PackageInstance
pub mod Facts
