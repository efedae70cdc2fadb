pub mod Table
pub mod BitByBit
pub mod OneBit
pub mod Slots
pub mod Words
pub mod Ends
pub mod Numbers
