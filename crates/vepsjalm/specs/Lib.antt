-- METHOD 8.5: what callers of decomposing in other languages are promised (Numbers); those of the desk file: crate `desk_numbers`; of the members' sheet:
-- crate `sheet_numbers`.
pub mod Numbers
