-- What is proved of the definitions, for the proofs of functions.
pub mod LineFacts
pub mod Chained
pub mod Behind
pub mod Room
pub mod TooLarge
pub mod OnePass
pub mod Settled
pub mod Listing
pub mod Steps
pub mod Passing
pub mod Sound
pub mod Complete
pub mod Told
pub mod Judged
pub mod SenderKeys
pub mod Placed
