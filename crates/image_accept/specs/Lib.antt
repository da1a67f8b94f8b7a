-- Accepting an image: its layout, what passing its fields notes, and what `accept` answers and leaves in its tables.
pub mod Layout
pub mod Passing
pub mod Surveyed
