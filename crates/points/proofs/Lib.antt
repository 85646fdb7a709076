pub mod ByNumber
pub mod Depths
pub mod Grows
pub mod Parents
pub mod Upwards
