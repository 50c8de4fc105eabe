-- METHOD 11: the pencil cases.
pub mod Pencil
