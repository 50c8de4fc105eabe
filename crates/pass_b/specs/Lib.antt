-- What the code of pass B asks of its arguments and leaves.
pub mod Promises
