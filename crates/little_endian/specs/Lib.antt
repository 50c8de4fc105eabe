-- Numbers, signed numbers and arrays of them as bytes, low byte first (Bytes). The laws are in proofs/.
pub mod Bytes
