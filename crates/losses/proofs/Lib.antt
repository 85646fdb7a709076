pub mod Charging
pub mod Rounds
pub mod Settling
pub mod Summing
pub mod Turns
pub mod Values
