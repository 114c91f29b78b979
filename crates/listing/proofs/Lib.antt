pub mod Counting
pub mod Lined
pub mod Uneven
pub mod Words
