-- What the code of a pass asks and leaves. The steps themselves are in crate `steps`.
pub mod Promises
