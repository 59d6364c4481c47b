mod SplitInputs
mod Partings
mod Joinings
mod Splittings
mod CertBytes
