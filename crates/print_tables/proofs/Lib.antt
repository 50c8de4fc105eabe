-- Laws that the proofs share; ReadPrinted has what is printed of a file that is read, Written what is written of a series that is decomposed.
mod PrintLaws
pub mod ReadPrinted
pub mod Written
