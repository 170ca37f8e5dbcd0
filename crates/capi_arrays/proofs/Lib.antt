pub mod Regrouped
pub mod Packing
pub mod Fitting
