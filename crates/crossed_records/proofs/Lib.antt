-- Laws of rule 5 record by record.
pub mod Laws
