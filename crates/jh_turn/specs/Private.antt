-- The rule of the lock's table, and what single steps do: ghost members of the rule and clauses of private functions alone
-- cite these, and no public clause rests on them.
pub mod Closing
pub mod Dealing
pub mod Rule
pub mod Stages
