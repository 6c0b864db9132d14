pub mod Lists
pub mod Gathering
pub mod Laying
pub mod Places
