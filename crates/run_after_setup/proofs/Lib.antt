pub mod Imaged
pub mod Joined
pub mod RanAlone
