pub mod Questions
pub mod Text
