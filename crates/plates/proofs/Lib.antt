mod Ends
mod Sums
mod Trips
