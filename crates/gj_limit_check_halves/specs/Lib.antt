pub mod Half
pub mod RowTests
pub mod HalvesOutcome
