pub mod Wording
pub mod Keeping
pub mod KeptPorts
pub mod MeaningWords
pub mod Differing
pub mod Faultless
