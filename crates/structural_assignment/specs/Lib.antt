pub mod PerRecord
