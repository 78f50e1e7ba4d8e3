mod WorkedBounds
mod WorkedCalls
mod WorkedLaws
