pub mod Owing
pub mod WrittenMembers
pub mod ReadAgain
pub mod SizedBytes
