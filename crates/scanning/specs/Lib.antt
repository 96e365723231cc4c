pub mod Stands
pub mod TextRuns
pub mod ScanAnswers
