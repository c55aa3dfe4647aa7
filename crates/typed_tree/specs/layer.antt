pub mod PrivateOpenings
pub mod Judged
pub mod TypedNodes
pub mod ExpressionLaws
pub mod ViewEnv
pub mod Parts
