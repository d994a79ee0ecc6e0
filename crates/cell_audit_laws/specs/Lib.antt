pub mod Anew
pub mod Transcripts
