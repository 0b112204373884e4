mod Splits
mod Cancelling
mod Arriving
mod Leaving
mod Spotted
mod Blocks
