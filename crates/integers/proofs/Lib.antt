-- Laws of whole numbers: differences, sizes, order, sums; of lists that are filled, lent in part or stored into; of the roundings and the root; and what the
-- code's signed 64-bit numbers ask.
pub mod Differences
pub mod SizeLaws
pub mod Order
pub mod SumLaws
pub mod FillingLaws
pub mod Fronts
pub mod Parts
pub mod Stores
pub mod RoundingLaws
pub mod RootLaws
pub mod Signed64
