pub mod Prelude
pub mod Proper
pub mod Adding
pub mod Present
pub mod Untouched
mod Round
mod Orders
mod Holding
mod Origins
pub mod Numbering
mod Fitting
mod Given
mod Started
mod Nowhere
pub mod Parts
mod Clients
mod Playing
pub mod Ended
pub mod Executed
pub mod Accounts
pub mod Found
mod Done
mod Table
mod Placing
mod Ghosts
pub mod Rows
pub mod Further
mod Bases
pub mod PartsTable
