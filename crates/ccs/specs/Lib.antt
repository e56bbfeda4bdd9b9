pub mod Ccs
