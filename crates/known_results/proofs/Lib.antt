pub mod Known
pub mod Waveforms
pub mod Blocks
pub mod Recordings
