pub mod Rebuild
