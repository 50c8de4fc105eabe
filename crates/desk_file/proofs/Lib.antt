-- Laws of both answers (Answers), the theorems of the round trip, and the examples.
pub mod Answers
pub mod RoundTrip
pub mod Examples
