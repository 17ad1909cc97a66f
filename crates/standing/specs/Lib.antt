pub mod Bridge
pub mod Laws
pub mod Records
