-- Sums, for the crates above.
pub use Rattle.rank_tables.proofs.Numbers.{sum_by_same}
