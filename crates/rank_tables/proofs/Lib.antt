mod Cuts
mod Listed
mod OneSided
mod RankOrder
mod RowCounts
mod RowsGrow
mod RowsMade
mod TablesMade
mod TermRows
mod TermSums
mod TermTotal
mod Turning
pub mod Below
pub mod ListFacts
pub mod Membership
pub mod Numbers
pub mod PairFacts
pub mod PairNumbers
pub mod Ranks
pub mod SamePairs
pub mod StablePairs
pub mod TableFacts
pub mod TermBound
pub mod Unique
