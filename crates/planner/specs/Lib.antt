pub mod Axes
pub mod Bodies
