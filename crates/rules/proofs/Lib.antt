pub mod Reach
pub mod Nearest
pub mod Kept
pub mod Exact
pub mod Prefix
pub mod Accrued
pub mod Laws
