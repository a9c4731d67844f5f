mod FaultRows
mod LevelRows
mod StatementRows
mod Depths
mod MeaningBound
mod MeaningDepths
mod MeaningRows
mod SelectRows
mod PathDepths
mod Resolving
pub mod AnswerDepths
mod Gives
mod Tallness
mod ExpressionDepths
mod LayerDepths
mod TokenDepths
mod StatementDepths
pub mod ParsedDepths
mod ShallowRows
mod ChangeRows
mod EffectRows
pub mod Equality
pub mod Combinations
mod MarksKept
mod ExpressionMarks
mod Targets
pub mod ParsedTargets
