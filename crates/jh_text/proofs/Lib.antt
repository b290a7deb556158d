mod Acts
mod Calls
mod Digits
mod Bodies
mod EveryText
mod Headers
mod Lines
mod Numbers
mod WrittenDigits
mod ReadLines
mod Spellings
mod Splits
mod Texts
mod TypedTexts
mod JournalLaws
pub mod Public
