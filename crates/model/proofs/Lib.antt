pub mod State
pub mod Answers
pub mod Core
pub mod Made
pub mod Chains
pub mod Numbers
pub mod Filled
