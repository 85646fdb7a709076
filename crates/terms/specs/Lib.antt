pub mod Answers
pub mod Channels
pub mod Figures
pub mod Refusals
