-- METHOD 7.1: arrays of figures and weights in bytes (Arrays). Promises has what the code asks and promises.
pub mod Arrays
pub mod Promises
