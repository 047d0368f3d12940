pub mod Benchmarks
pub mod Dated
pub mod Orders
pub mod Refusals
