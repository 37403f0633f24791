mod SameLaws
mod PointLaws
mod OffsetLaws
mod ThinnedLaws
mod BestLaws
mod BoundLaws
mod ChoiceLaws
mod Examples
