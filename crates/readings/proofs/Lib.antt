pub mod Judging
pub mod Progress
pub mod Spreading
