use Rattle.fl_file_store.proofs.AgainLemmas.{both_usable, not_both}
use Rattle.fl_file_store.proofs.again.opened_again.Goals as goal

pub returns-then-not-may_be_used-clause-shut : goal.returns-then-not-may_be_used-clause-shut
returns-then-not-may_be_used-clause-shut g c =
    (c.given_up-files.result, c.given_up-files.ensures, not_both c.may_be_used.result _ _ c.may_be_used.ensures c.if-not-may_be_used.true)

pub open_files-requires-clause-log : goal.open_files-requires-clause-log
open_files-requires-clause-log g c = (both_usable c.may_be_used.result _ _ c.may_be_used.ensures c.if-not-may_be_used.false).0

pub open_files-requires-clause-db : goal.open_files-requires-clause-db
open_files-requires-clause-db g c = (both_usable c.may_be_used.result _ _ c.may_be_used.ensures c.if-not-may_be_used.false).1

pub returns-in-Err-clause-shut : goal.returns-in-Err-clause-shut
returns-in-Err-clause-shut g c =
    (c.given_up-files.result, c.given_up-files.ensures, both_usable c.may_be_used.result _ _ c.may_be_used.ensures c.if-not-may_be_used.false, c.in-Err._left, c.in-Err.ensures.cause)
