pub mod Vulnerable
pub mod Words
