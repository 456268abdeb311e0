pub mod Origin
pub mod Time
pub mod Range
pub mod Sample
pub mod Calendar
