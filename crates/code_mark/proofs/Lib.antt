pub mod PlaceLaws
pub mod ReadLaws
pub mod NowLaws
pub mod KeptLaws
pub mod MarkLaws
pub mod SendLaws
