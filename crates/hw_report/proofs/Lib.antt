mod Onward
mod Texts
