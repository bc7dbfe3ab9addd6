pub mod Examples
pub mod ChangedLaws
pub mod SharedLaws
pub mod ClaimsLaws
pub mod FitsLaws
pub mod InsideLaws
