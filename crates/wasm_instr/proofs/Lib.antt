pub mod ByOpcode
pub mod OperatorEquality
pub mod OperatorPrefixCode
pub mod SharedOpcodes
pub mod HighBytes
pub mod FirstBytes
pub mod JoinedRoles
