-- Laws of the wall chart: its columns and places (Places), values in month order (Rearranging), what loops need (Loops); examples.
pub mod Places
pub mod Rearranging
pub mod Loops
pub mod Examples
