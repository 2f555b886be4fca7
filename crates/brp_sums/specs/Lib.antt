pub mod Brps
