pub mod Comparing
pub mod Escapes
pub mod RoundTrip
pub mod Stream
pub mod Laws
