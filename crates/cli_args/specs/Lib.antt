pub mod Forms
pub mod Numbers
pub mod Times
pub mod Words
