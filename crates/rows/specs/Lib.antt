-- METHOD 2: the stored rows of the filters, what they obey, and where Henderson's come from.
pub mod Table
pub mod MeanRows
pub mod HendersonRows
pub mod FilterTables
pub mod Stored
pub mod Henderson
pub mod RowRules
