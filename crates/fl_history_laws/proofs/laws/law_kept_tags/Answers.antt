use Rattle.std.proofs.Common.{subst}
use Rattle.fl_labels.specs.SetBy.{In}
use Rattle.fl_bench.specs.Process.{side_of}
use Rattle.fl_bench.specs.declared.process.Process.{Process}
use Rattle.fl_bench.specs.laws.Puts.{same_found}
use Rattle.fl_world_laws.specs.laws.Naming.{reached_named}
use Rattle.fl_history_laws.specs.laws.Pids.{reached_tidy}
use Rattle.fl_history_laws.specs.laws.Keeping.{kept, kept_out}
use Rattle.fl_history_laws.specs.laws.Returning.{lives_given}
use Rattle.fl_history_laws.specs.laws.Living.{lives_living}
use Rattle.fl_history_laws.proofs.laws.law_kept_tags.Goals as goal

pub returns-clause-kept : goal.returns-clause-kept
returns-clause-kept c = λ w ms pid side tag old new reached run lives here still.
    let named = reached_named w reached in
    let tidy = reached_tidy w reached in
    kept pid side tag w ms named tidy (lives_given named tidy lives) run
    (λ p e. subst (λ (x : Process). In (side_of side x.labels) tag) (same_found (lives_living lives) e) here)
    new (lives_living still)

pub returns-clause-kept_out : goal.returns-clause-kept_out
returns-clause-kept_out c = λ w ms pid side tag old new reached run lives out still.
    let named = reached_named w reached in
    let tidy = reached_tidy w reached in
    kept_out pid side tag w ms named tidy (lives_given named tidy lives) run
    (λ p e. subst (λ (x : Process). ¬ In (side_of side x.labels) tag) (same_found (lives_living lives) e) out)
    new (lives_living still)
