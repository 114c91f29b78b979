pub mod Description
pub mod Lowest
pub mod Made
pub mod Readings
pub mod Refusals
pub mod Stores
