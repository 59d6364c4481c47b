mod Titles
mod Told
mod TwoLines
