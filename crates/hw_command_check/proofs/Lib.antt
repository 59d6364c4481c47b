mod Checked
pub mod Rewritten
pub mod Renewed
