pub mod Orders
pub mod Stacks
pub mod Single
pub mod Trees
pub mod Principal
pub mod Walks
pub mod Beginnings
pub mod Shapes
