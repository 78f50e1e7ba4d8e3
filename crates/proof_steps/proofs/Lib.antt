mod Stacks
mod Values
mod Waiting
