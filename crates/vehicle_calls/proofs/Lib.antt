mod LastIn
mod Vehicles
