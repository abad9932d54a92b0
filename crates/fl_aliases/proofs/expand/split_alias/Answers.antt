use Rattle.std.proofs.Common.{◌∙◌, inl, inr, subst, sym, arith}
use Rattle.fl_aliases.specs.Alias.{IsAlias}
use Rattle.fl_aliases.specs.laws.Runs.{cut_behind, front_alias, no_front, found_front}
use Rattle.fl_aliases.proofs.expand.split_alias.Goals as goal
use Rattle.fl_aliases.proofs.expand.split_alias.Goals.{then-count-eq0-via-then-count-eq0, then-count-eq0-via-else-count-eq0+then-count-gt-MOST_ALIAS_LETTERS}

pub split_at-requires : goal.split_at-requires
split_at-requires c = rw c.letters_in_front-count.ensures (cut_behind c.args.text.now c.utf8.text)

pub returns-then-count-eq0-clause-none : goal.returns-then-count-eq0-clause-none
returns-then-count-eq0-clause-none c =
    no_front c.args.text.now _ c.letters_in_front-count.ensures (elim c.then-count-eq0.branch [
      | then-count-eq0-via-then-count-eq0 w ↦ inl w.if-count-eq0.true
      | then-count-eq0-via-else-count-eq0+then-count-gt-MOST_ALIAS_LETTERS w ↦ inr w.if-count-gt-MOST_ALIAS_LETTERS.true
    ])

pub of_letters-alias-requires : goal.of_letters-alias-requires
of_letters-alias-requires c =
    subst IsAlias (sym (c.as_bytes.ensures.value ∙ c.split_at.ensures.front))
    (front_alias c.args.text.now _ c.letters_in_front-count.ensures c.if-count-eq0.false (omega arith))

pub returns-clause-some : goal.returns-clause-some
returns-clause-some c =
    found_front c.args.text.now c.as_bytes.result.now c.split_at.result.1.now c.of_letters-alias.result _ c.letters_in_front-count.ensures (c.as_bytes.ensures.value ∙ c.split_at.ensures.front) c.split_at.ensures.back c.of_letters-alias.ensures
    (front_alias c.args.text.now _ c.letters_in_front-count.ensures c.if-count-eq0.false (omega arith))
