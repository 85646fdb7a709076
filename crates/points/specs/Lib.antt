pub mod Classes
pub mod Points
pub mod Rules
