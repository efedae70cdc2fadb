pub mod HasBits
pub mod Masks
pub mod Matches
pub mod MatchBits
pub mod Pinned
