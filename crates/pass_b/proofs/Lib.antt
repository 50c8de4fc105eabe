-- Laws that the code of pass B uses.
pub mod Turns
