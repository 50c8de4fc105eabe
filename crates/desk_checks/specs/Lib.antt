-- METHOD 8.2: the checks of a desk file in either form (FileChecks). Checked has what they find, for the entry points.
pub mod FileChecks
pub mod Checked
