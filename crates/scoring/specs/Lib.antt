pub mod Law
pub mod Range
