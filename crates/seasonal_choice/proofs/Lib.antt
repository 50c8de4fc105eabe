-- Laws of the choice of a seasonal filter.
pub mod Asking
