pub mod Names
pub mod Components
pub mod Environment
pub mod Unsupported
pub mod Faults
pub mod Validity
