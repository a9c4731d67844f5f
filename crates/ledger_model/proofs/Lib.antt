pub mod SaidLemmas
pub mod Redactions
mod ScriptRows
mod ReportRows
mod JournalRows
mod FollowsRows
mod RunRows
mod FootprintRows
mod WritingRows
mod HistoryRows
mod ReadRows
mod RepeatedNames
