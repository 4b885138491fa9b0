-- A theorem that belongs to no one function.
pub mod Report
