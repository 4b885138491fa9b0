-- What the contracts of `planner_areas` cite.
pub mod Edges
