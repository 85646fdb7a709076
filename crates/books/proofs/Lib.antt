pub mod Offsets
pub mod Puts
pub mod Rules
