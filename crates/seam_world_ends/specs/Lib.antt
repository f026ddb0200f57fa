pub mod Status
pub mod Ends
pub mod Printing
pub mod Headers
