pub mod RawSteps
pub mod ModuleSteps
