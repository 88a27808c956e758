pub mod Weighbridges
