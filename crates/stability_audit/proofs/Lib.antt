mod Least
mod Pairs
mod Tallying
mod Verdicts
