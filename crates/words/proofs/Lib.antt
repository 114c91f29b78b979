pub mod Complete
pub mod Fields
pub mod Laws
pub mod Names
pub mod Fitting
pub mod Sound
pub mod Same
