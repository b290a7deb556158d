-- The numbers of errors, for definitions that name them. They are the constants of the code, whose
-- values `errors_are_these` states.
unfoldable pub use Rattle.jh_num.specs.declared.error.TheConstants.{EPERM, ENOENT, E2BIG, ENOMEM, EBUSY, EEXIST, EINVAL, ENOSYS}
