pub mod Items
pub mod Types
pub mod Views
