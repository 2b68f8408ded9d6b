mod Faults
mod Trips
