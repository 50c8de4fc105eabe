-- Laws of the arrays of a desk file.
pub mod ArrayLaws
