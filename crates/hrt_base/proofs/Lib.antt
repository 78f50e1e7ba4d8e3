pub mod Digits
pub mod Fronts
pub mod Numerals
pub mod Pieces
mod WorkedCalls
mod WorkedNumbers
