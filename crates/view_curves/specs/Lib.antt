pub mod Charted
pub mod Decimation
pub mod Scales
pub mod Series
