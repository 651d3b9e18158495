mod Bases
mod Batches
mod Replays
mod Opens
mod Streams
mod Stays
