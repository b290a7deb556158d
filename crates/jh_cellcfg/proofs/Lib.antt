mod Lists
mod Headers
mod Splits
mod Faultless
mod Fields
mod SpelledCells
mod SpelledFields
mod Writing
mod AddressLemmas
pub mod Public
