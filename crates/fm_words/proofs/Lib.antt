pub mod LargeNumbers
pub mod LineEnds
pub mod Cuts
pub mod FirstFaults
pub mod Cutting
pub mod Decimals
