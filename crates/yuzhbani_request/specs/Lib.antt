-- What the contracts of `yuzhbani_request` cite.
pub mod Request
