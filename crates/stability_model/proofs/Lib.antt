pub mod Numbers
pub mod PairRow
pub mod ModelExact
pub mod Optimum
mod Pushes
pub mod Growing
pub mod Places
pub mod TermCount
mod PairTerms
mod RowSizes
pub mod Counts
pub mod GoneInNone
pub mod GoneSteps
pub mod SameCounts
pub mod CoefRows
pub mod ShortRows
