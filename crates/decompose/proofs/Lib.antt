-- Laws of decomposing.
pub mod Answers
