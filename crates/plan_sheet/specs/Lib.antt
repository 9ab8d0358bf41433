pub mod Faults
pub mod Plans
pub mod Says
pub mod Views
pub mod Accepts
