pub mod BinaryText
