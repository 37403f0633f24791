pub mod CostLaws
mod Examples
pub mod CertificateLaws
mod Elements
mod States
mod Gathers
mod Unused
mod Towards
pub mod Reaches
mod CostSteps
mod MoveSteps
mod CandidateSteps
mod MovedSteps
mod SplitSteps
mod Numbers
mod EdgeRows
mod TableSteps
mod Searches
mod MovedViews
mod PlaceSteps
mod CheckSteps
mod WaySteps
mod TableCheck
mod Inside
mod AxisMore
mod DeviceSums
mod StepCosts
mod HeldSteps
mod ReplicationCounts
mod ReplicationWays
pub mod Replication
mod ReplicationExamples
pub mod FinerParts
pub mod FinerMoves
pub mod LocalSteps
pub mod SplitLaws
pub mod PlanReshards
pub mod GatherPieces
