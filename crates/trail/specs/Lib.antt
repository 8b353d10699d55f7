pub mod Trail
pub mod Inside
pub mod Laws
