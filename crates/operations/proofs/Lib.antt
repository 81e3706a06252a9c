-- What is proved of the operations: the work slice at the start (Placed), joined results (Joined, and of the calls CallJoined), secrecy
-- (Secret), tape words (Tape), all together (Masked).
pub mod Placed
pub mod Joined
pub mod CallJoined
pub mod Secret
pub mod Tape
pub mod Masked
