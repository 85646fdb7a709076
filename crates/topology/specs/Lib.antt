pub mod Entries
pub mod Numbers
pub mod Questions
pub mod Service
pub mod Tables
pub mod Trees
