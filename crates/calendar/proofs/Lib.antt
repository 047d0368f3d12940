pub mod Easters
pub mod Rising
pub mod Years
pub mod Leap
