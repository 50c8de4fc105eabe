-- METHOD 7.2 to 7.4, the plain desk file: what reading and writing promise (ReadFile, WriteFile), the theorems on both together
-- (RoundTrips), and examples of both (Examples).
pub mod ReadFile
pub mod WriteFile
pub mod RoundTrips
pub mod Examples
