pub mod Electrons
