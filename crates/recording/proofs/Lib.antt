pub mod Recordings
pub mod RowsRead
pub mod Headers
pub mod Order
pub mod Readable
pub mod Fronts
pub mod OwnNumbers
