pub mod CloserTables
