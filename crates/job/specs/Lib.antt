pub mod Examples
pub mod Jobs
pub mod Laws
pub mod Refusals
pub mod Verdicts
pub mod Writing
