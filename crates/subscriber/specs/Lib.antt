pub mod Standing
pub mod Fitting
pub mod Alike
pub mod Charging
pub mod Subscribers
