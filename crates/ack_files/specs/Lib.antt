pub mod Lines
pub mod Acknowledgement
pub use Rattle.cwr_files.specs.Contents
pub use Rattle.cwr_records.specs.Lines as LinesOfFiles
pub use Rattle.cwr_files.specs.Transaction
