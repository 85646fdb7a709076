pub mod Blocks
pub mod Charging
pub mod Finals
pub mod Limits
pub mod Metered
pub mod Rounds
pub mod Sharing
