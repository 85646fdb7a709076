pub mod Hours
pub mod Places
pub mod Profiles
