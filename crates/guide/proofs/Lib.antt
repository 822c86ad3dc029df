mod Placing
mod Lines
