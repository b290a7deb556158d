pub mod Public
mod ListLemmas
mod LawLemmas
mod MemberLemmas
