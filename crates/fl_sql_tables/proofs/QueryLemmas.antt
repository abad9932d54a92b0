-- How a query of a keeper ends, where it is plain.
use Rattle.std.proofs.Common.{◌≡◌, inl, inr, ℕ, List, [], Ok, Err, Result, OnOk, OnErr, sym, subst, ◌∙◌, arith}
use Rattle.sqlite.specs.Order.{Row}
use Rattle.sqlite.specs.declared.error.Error.{Error}
use Rattle.sqlite.specs.Listing.{understood}
use Rattle.sqlite.specs.Given.{IsPlain}
use Rattle.sqlite.specs.State.{State, IsUnchanged, IsRolledBack, IsNotRun, KeepsCommit, FailsToQuery, QueriesRow, Shown, Survives, CommitsShowing}
use Rattle.sqlite.proofs.StateLemmas.{survives_weaker}
use Rattle.sqlite.proofs.Callers.{never_commits}
use Rattle.fl_sql_tables.specs.Tables.{keeper_schema}
use Rattle.fl_sql_tables.specs.Stored.{IsUndone}
use Rattle.fl_sql_tables.specs.Serving.{IsServing}
use Rattle.fl_sql_tables.specs.Failing.{RunsOut}

pub undone_same : (old new : State) → old.now ≡ old.committed → IsUnchanged old new → IsUndone old new
undone_same old new settled h = record { was_open = λ _. h.0.was_open; now_is = λ _. h.0.now_is ∙ settled; committed_is = λ _. h.0.committed_is }

pub undone_back : (old new : State) → IsRolledBack old new → IsUndone old new
undone_back old new h = record { was_open = h.was_open; now_is = λ is_open. (h.undone is_open).0; committed_is = λ is_open. (h.undone is_open).1 }

-- what the database leaves where it wants for memory
pub runs_out : (old new : State) → IsRolledBack old new → RunsOut old new
runs_out old new h = record { undone = undone_back old new h; idle = h.autocommit; unmarked = h.unmarked }

-- before it, nothing was committed
pub runs_out_then : (a b c : State) → KeepsCommit a b → RunsOut b c → RunsOut a c
runs_out_then a b c kept h = record {
  undone = record {
    was_open = λ is_open. kept.was_open (h.undone.was_open is_open);
    now_is = λ is_open. h.undone.now_is is_open ∙ kept.committed (h.undone.was_open is_open);
    committed_is = λ is_open. h.undone.committed_is is_open ∙ kept.committed (h.undone.was_open is_open);
  };
  idle = h.idle;
  unmarked = h.unmarked;
}

pub kept_if_same : (a b : State) → IsUnchanged a b → KeepsCommit a b
kept_if_same a b h = record { was_open = λ _. h.0.was_open; committed = λ _. h.0.committed_is }

pub undone_not_run : (old new : State) (sql : List ℕ) (params : Row) (e : Error) → old.now ≡ old.committed → IsNotRun old new sql params e → IsUndone old new
unfolding IsNotRun
undone_not_run old new sql params e settled (inl h) = undone_same old new settled h.1
undone_not_run old new sql params e settled (inr h) = undone_back old new h.3

module _ (sql : List ℕ) (params : Row) (old new : State) (has : old.now.schema ≡ keeper_schema) (plain : IsPlain (understood keeper_schema sql)) where
  pub plain_here : IsPlain (understood old.now.schema sql)
  plain_here = subst (λ s. IsPlain (understood s sql)) (sym has) plain

  pub shown_same : (rows : List Row) → Shown sql params old new rows → IsUnchanged old new
  unfolding Shown
  shown_same rows h =
      let bare = subst IsPlain h.1.is plain_here in
      (rw bare.0 at h.2).3

  pub row_same : (row : Row) → QueriesRow sql params old new (Ok row) → IsUnchanged old new
  unfolding QueriesRow
  row_same row (inl h) = h.1
  row_same row (inr h) = shown_same h.0 h.1

  pub undone_query : (e : Error) → old.now ≡ old.committed → FailsToQuery sql params old new e → IsUndone old new
  unfolding FailsToQuery
  undone_query e settled (inl h) = undone_not_run old new sql params e settled h
  undone_query e settled (inr h) =
      let bare = subst IsPlain h.1.is plain_here in
      undone_same old new settled (rw bare.0 at h.2).3

  pub undone_row : (e : Error) → old.now ≡ old.committed → QueriesRow sql params old new (Err e) → IsUndone old new
  unfolding QueriesRow
  undone_row e settled (inl h) = undone_query e settled h
  undone_row e settled (inr h) = undone_same old new settled (shown_same [] h.1)

-- a plain query commits nothing
pub quiet_query : (sql : List ℕ) (params : Row) (old new : State) (number : ℕ) → IsServing number old → IsPlain (understood keeper_schema sql) → Survives old new (CommitsShowing sql params old)
    → Survives old new (λ _. ⊥)
quiet_query sql params old new number serving plain s =
    survives_weaker old new _ _ (λ clean db. never_commits sql params old db (plain_here sql params old new (serving (omega (arith, s.clean))).schema plain)) s

pub on_ok : {T E : Type 0} (r : Result T E) {P : Type 0} → P → OnOk r P
on_ok (Ok x) p = p
on_ok (Err e) p = tt

pub on_err : {T E : Type 0} (r : Result T E) {P : Type 0} → P → OnErr r P
on_err (Ok x) p = tt
on_err (Err e) p = p

-- the same, where the schema is known
pub quiet_known : (sql : List ℕ) (params : Row) (old new : State) → old.now.schema ≡ keeper_schema → IsPlain (understood keeper_schema sql) → Survives old new (CommitsShowing sql params old)
    → Survives old new (λ _. ⊥)
quiet_known sql params old new has plain s = survives_weaker old new _ _ (λ clean db. never_commits sql params old db (plain_here sql params old new has plain)) s
