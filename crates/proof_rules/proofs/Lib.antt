pub mod Made
pub mod PolRows
pub mod Unsigned
pub mod Steps
pub mod Soundness
pub mod Verdicts
pub mod Pieces
pub mod Fits
pub mod Canonical
pub mod FarBounds
pub mod Matchings
pub mod Told
mod Worked
mod WorkedTexts
mod WorkedClosures
pub mod Numbers
pub mod Learned
mod WorkedNotes
pub mod Ends
pub mod Held
pub mod HeldLive
