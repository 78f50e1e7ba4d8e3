pub mod InOrder
pub mod Readiness
pub mod Rising
mod Literals
mod Spelled
mod NotesOfLines
mod Standing
mod Fronts
mod Taken
pub mod Solutions
pub mod ShortRows
mod Asked
pub mod Starts
mod Counts
pub mod Forgotten
pub mod Traced
pub mod NoneDeleted
mod CutsTraced
mod Loaded
pub mod EndsTraced
pub mod Writable
