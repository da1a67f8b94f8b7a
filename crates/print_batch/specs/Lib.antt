-- What stands in an output that is printed; a batch that is read.
pub mod Printing
pub mod Reading
