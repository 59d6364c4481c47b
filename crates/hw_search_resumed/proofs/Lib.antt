mod Answered
mod PartLines
mod Counted
