pub mod EdgeCount
