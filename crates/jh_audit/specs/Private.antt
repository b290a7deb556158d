-- What single steps of an audit answer: clauses of private functions alone cite these, and no public clause rests on them.
pub mod Rest
pub mod Compares
