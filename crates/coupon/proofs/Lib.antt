pub mod Rows
pub mod Owned
pub mod Admitted
pub mod Sound
