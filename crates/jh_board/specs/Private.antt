-- Definitions that mirror the code: only clauses of private functions, and views and invariants of private types,
-- cite them, and no public clause rests on them.
pub mod Found
pub mod IsIndexed
pub mod RootPrograms
pub mod JudgedCreate
pub mod KeptCells
pub mod Seated
pub mod Pages
pub mod Editing
pub mod HavePages
pub mod StateView
pub mod Steps
pub mod Advances
