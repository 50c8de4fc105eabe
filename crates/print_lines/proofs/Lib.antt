-- Laws that the proofs share, and worked examples.
mod LineLaws
mod Examples
