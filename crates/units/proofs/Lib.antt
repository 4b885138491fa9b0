-- Laws that belong to no one function.
pub mod Signs
pub mod Division
pub mod Scaling
pub mod Constants
pub mod Doubling
pub mod Nearest
