pub mod TracedRows
pub mod OwnTrace
pub mod TextLines
pub mod LinesRead
pub mod TextRead
pub mod Claims
