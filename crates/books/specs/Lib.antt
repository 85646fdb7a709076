pub mod Books
pub mod Bytes
