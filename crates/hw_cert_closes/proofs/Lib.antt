pub mod Falsified
mod Narrowings
mod Numbers
