pub mod Found
pub mod Digits
pub mod GroupTexts
pub mod Lengths
pub mod Symbols
pub mod Chains
pub mod Scored
pub mod Distinct
