pub mod StandingLaws
