-- What the contracts of `job` cite.
pub mod PlanJob
pub mod Refused
