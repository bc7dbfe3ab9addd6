pub mod FindingLaws
pub mod Gather
pub mod RaisesLaws
