pub mod Judging
pub mod LineShapes
pub mod Once
pub mod Reading
pub mod Serving
pub mod Writing
