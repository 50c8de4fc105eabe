-- The pencil cases hold.
pub mod Cases
