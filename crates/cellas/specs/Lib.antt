pub mod Exit
