pub mod Seats
pub mod Rejoined
pub mod Alone
pub mod Shifts
pub mod Tries
