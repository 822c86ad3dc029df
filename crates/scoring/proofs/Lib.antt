pub mod Outcomes
pub mod Penalties
