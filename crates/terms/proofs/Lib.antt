pub mod Decimals
pub mod Orders
pub mod Places
