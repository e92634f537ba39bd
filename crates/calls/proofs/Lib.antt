mod Moments
mod Delivery
mod Passing
