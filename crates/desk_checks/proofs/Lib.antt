-- Laws of the checks of both forms of a desk file.
pub mod CheckedLaws
pub mod Again
