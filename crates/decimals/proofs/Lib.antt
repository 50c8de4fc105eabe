-- Laws for the proofs of this crate and of those above it, and worked examples.
pub mod StoringLaws
pub mod DecimalLaws
mod Examples
