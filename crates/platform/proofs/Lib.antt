pub mod Search
pub mod Words
