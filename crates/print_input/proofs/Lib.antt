-- What holds of an input that is longer than a desk file.
pub mod LongFiles
