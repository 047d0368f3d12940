pub mod Bases
pub mod First
pub mod Has
