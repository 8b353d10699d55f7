pub mod Roots
pub mod Mapping
pub mod Failed
pub mod Walking
pub mod Met
pub mod Theorems
pub mod MappingLaws
