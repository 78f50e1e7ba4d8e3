mod Holding
mod Deciding
mod Learning
mod Starting
mod Logging
mod Points
