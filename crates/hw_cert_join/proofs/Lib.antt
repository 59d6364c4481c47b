mod Bests
mod Climbing
mod Covered
mod JoinLines
mod Opened
mod Tariffs
