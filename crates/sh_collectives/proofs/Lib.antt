pub mod DeviceLaws
pub mod GroupLaws
pub mod ListLaws
pub mod ShiftLaws
pub mod SizeLaws
pub mod WayLaws
pub mod DescribedLaws
pub mod PlaceLaws
mod AskedLaws
mod AnswerLaws
mod JoiningLaws
mod MadeLaws
mod CombiningLaws
mod PartLaws
mod MovingLaws
mod ValueLaws
mod ResultLaws
pub mod PlaceRows
pub mod MemberLaws
pub mod RuleLaws
pub mod CapturedLaws
pub mod VerifiedLaws
pub mod InstructionLaws
