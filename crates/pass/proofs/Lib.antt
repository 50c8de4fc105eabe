-- Laws that the code of a pass uses.
pub mod Places
pub mod Stages
