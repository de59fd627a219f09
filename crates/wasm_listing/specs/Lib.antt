pub mod Dump
pub mod Census
pub mod Words
