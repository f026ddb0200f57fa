pub mod Records
pub mod CallLaws
pub mod Reaps
pub mod LookLaws
pub mod Prelude
