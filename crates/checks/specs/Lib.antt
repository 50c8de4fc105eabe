-- METHOD 8: what decomposing answers, and examples of rows 1 to 5. Promises has what the checks find, for the entry point.
pub mod Answer
pub mod Examples
pub mod Promises
