pub mod Numbers
pub mod View
pub mod Members
pub mod Determined
pub mod Lists
pub mod Names
