-- METHOD 8.3 and 8.4: the scratch. Examples has METHOD's example.
pub mod Scratch
pub mod Examples
