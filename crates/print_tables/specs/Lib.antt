-- METHOD 9: what is printed (Printed); and 7.3: what decomposing leaves, writing accepts (Written).
pub mod Printed
pub mod Written
