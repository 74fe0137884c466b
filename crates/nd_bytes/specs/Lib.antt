pub mod Cut
pub mod Compared
pub mod Decimal
pub mod Lines
