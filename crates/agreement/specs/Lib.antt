-- Whether what a check of a stored image gives agrees with the stored answer.
pub mod Agreement
