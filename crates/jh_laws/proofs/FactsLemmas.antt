-- What entries do to the facts.
use Rattle.std.proofs.Common.{◌≡◌, List, ◌++◌, refl}
use Rattle.std.specs.List.{fold}
use Rattle.std.proofs.lemmas.List.Sums.{fold-append}
use Rattle.jh_script.specs.declared.image.Image.{Image}
use Rattle.jh_history.specs.declared.form.Form.{Form}
use Rattle.jh_history.specs.declared.entry.Entry.{Entry}
use Rattle.jh_history.specs.Facts.{Facts}
use Rattle.jh_history.specs.History.{start, after, facts}
use Rattle.jh_history.specs.Bytes.{byte_after}
use Rattle.jh_history.specs.Cpus.{cpu_after}

-- what an entry does to each fact
pub byte_after_holds : (image : Image) (f : Facts) (entry : Entry) → (after image f entry).byte ≡ byte_after image f entry
unfolding after
byte_after_holds image f entry = refl

pub cpu_after_holds : (image : Image) (f : Facts) (entry : Entry) → (after image f entry).cpu ≡ cpu_after image f entry
unfolding after
cpu_after_holds image f entry = refl

pub facts_append : (image : Image) (form : Form) (before rest : List Entry) → facts image form (before ++ rest) ≡ fold (after image) (facts image form before) rest
unfolding facts
facts_append image form before rest = fold-append (after image) (start image form) before rest
