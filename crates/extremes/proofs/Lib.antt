-- Laws of the definitions, cited by the proofs of the functions. WeighingLaws is for callers too; GroupMonths shows that the groups are those of
-- METHOD 5.2, NoGroupEmptied that dropping leaves months in each.
pub mod ListLaws
pub mod HeldSizes
pub mod YearLaws
pub mod SpreadLaws
pub mod GroupMonths
pub mod NoGroupEmptied
pub mod RunningSums
pub mod Groups
pub mod WeighingLaws
