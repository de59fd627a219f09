pub mod Adding
pub mod AddingAll
pub mod OneContext
pub mod OneConstant
pub mod OneItem
pub mod OnePayload
