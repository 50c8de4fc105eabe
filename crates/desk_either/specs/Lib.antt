-- Reading, writing and moving in either form (Either).
pub mod Either
