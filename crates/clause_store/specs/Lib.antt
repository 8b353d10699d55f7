pub mod Store
pub mod Words
pub mod Inside
pub mod Laws
