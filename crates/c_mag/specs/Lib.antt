pub mod Magnetometer
