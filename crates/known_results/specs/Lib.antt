pub mod Cases
pub mod Waveforms
pub mod Blocks
pub mod Recordings
