pub mod Faults
pub mod Words
pub mod Tables
pub mod Numbers
pub mod Spelling
