pub mod DayTimes
pub mod Millis
pub mod Laws
