pub mod BodyFields
pub mod Key
pub mod Limits
pub mod OpsView
pub mod Padded
pub mod PlanView
