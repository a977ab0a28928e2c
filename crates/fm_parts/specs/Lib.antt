pub mod Shapes
pub mod Values
pub mod Replays
pub mod Conditions
pub mod Sound
pub mod Meanings
pub mod Examples
