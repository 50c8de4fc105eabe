-- Laws of the scratch, and the example of METHOD.
pub mod ScratchLaws
pub mod Examples
