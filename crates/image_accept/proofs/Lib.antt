-- Laws of the one pass, of refusals one after the other, of the tables' room, and of what `accept` answers.
pub mod Lines
pub mod Passes
pub mod Sections
pub mod Surveying
pub mod Refusals
pub mod Answers
pub mod Rooms
