mod Words
pub mod Sound
