pub mod Lists
pub mod Calling
pub mod OfSets
pub mod Rows
pub mod Boards
pub mod FirstBoard
