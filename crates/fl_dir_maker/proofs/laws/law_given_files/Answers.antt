use Rattle.std.proofs.Common.{◌∙◌, sym, ap, subst}
use Rattle.sqlite.specs.Files.{HoldsDatabase}
use Rattle.fl_sql_tables.specs.Stored.{kept_in}
use Rattle.fl_dir_maker.proofs.laws.law_given_files.Goals as goal

pub returns : goal.returns
returns g c = λ opener dir number db k one it.
    let there = subst (λ image. HoldsDatabase image db) (sym (one.only it.image it.held)) one.database in
    it.same ∙ ap (kept_in number) (it.found.holds db there)
