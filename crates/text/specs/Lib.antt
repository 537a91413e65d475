pub mod Ascii
pub mod Lines
pub mod Decimal
pub mod Putting
pub mod Refusing
