pub mod Direct
pub mod Faults
pub mod Layers
pub mod Piles
pub mod Joined
pub mod Kept
