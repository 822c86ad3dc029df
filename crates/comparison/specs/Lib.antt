pub mod Ways
pub mod Way
pub mod Signs
pub mod Scale
