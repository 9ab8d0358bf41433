pub mod Places
pub mod Linear
pub mod Says
