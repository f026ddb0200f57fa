pub mod Prelude
pub mod Ranking
pub mod Climbing
mod CallSends
mod Following
mod Alone
mod Passing
pub mod HandedOver
mod Counts
mod SlotWeights
mod CellWeights
mod BaseWeights
pub mod NetWeights
mod Moving
mod Bare
pub mod Ordered
mod Starts
mod Cans
mod Given
pub mod QuietWeights
mod NoPasses
mod ReapPhase
mod LoadedNodes
pub mod HandOvers
mod RoundStart
pub mod Batched
mod PassSums
mod RoundPhase
mod Tickless
mod RoundTicks
mod LookPhase
mod Pigeons
mod LookCounts
mod AmongSlots
pub mod Among
mod LookStarts
mod Opening
mod Nothing
pub mod There
mod LookRecords
pub mod Viewed
pub mod Seen
pub mod Bounds
mod Naming
mod ToldCounts
mod Telling
mod RoundGrowth
