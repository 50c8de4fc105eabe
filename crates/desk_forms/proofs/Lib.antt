-- Laws of the two forms of a desk file: by one law each (FormLaws), stored and moved part by part (FileLaws), read and written again (Decoding), and
-- of slices after an answer (AfterLaws).
pub mod FormLaws
pub mod FileLaws
pub mod Decoding
pub mod AfterLaws
