pub mod TrailNumber
pub mod NumberLaws
pub mod FitLaws
