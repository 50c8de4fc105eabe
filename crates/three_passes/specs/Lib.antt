-- What the functions of the three passes ask and leave.
pub mod Promises
