mod JoinedPieces
mod CollectedSteps
mod GatherLaws
mod ExchangeLaws
pub mod Reshards
mod Examples
mod LoweringSteps
mod NamedGroups
mod LocalExtents
pub mod SoundMoves
pub mod SoundPlans
