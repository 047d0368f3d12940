pub mod Goes
pub mod States
pub mod Made
pub mod Calls
pub mod Reconciles
