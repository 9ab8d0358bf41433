pub mod Street
pub mod Standing
pub mod Counted
pub mod Careful
pub mod Fed
pub mod Views
pub mod Moving
pub mod Steps
