pub mod RawSections
pub mod WrittenModules
