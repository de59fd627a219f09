pub mod ByNumber
pub mod Immediates
pub mod Determined
pub mod Placed
pub mod PlacedTargets
pub mod Named
