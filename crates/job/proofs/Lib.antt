pub mod Nine
pub mod Pairs
pub mod Parts
pub mod Saying
pub mod Sizes
pub mod Written
