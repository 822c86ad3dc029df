pub mod Wrapping
mod Seats
pub mod Rotating
pub mod Mitchells
pub mod Howells
mod Over
mod Agreement
pub mod Layers
pub mod Occupied
pub mod Numbers
