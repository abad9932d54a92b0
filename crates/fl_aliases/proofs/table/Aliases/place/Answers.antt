use Rattle.std.proofs.Common.{◌≡◌, nat_eq, None, sym, ap, ◌∙◌, ◌++◌, ◌∷◌, []}
use Rattle.std.specs.Cmp.Lexicographic.{pointwise}
use Rattle.indexmap.proofs.CallerLemmas.{insert_entry-new}
use Rattle.fl_aliases.specs.Table.{target_of}
use Rattle.fl_aliases.proofs.Tables.{is_none, grown}
use Rattle.fl_aliases.proofs.table.Aliases.place.Goals as goal

pub returns-clause-ok : goal.returns-clause-ok
returns-clause-ok c =
    let absent : target_of c.self.inside.targets.entries c.args.alias ≡ None = is_none _ (sym c.contains_key.ensures ∙ c.if-contains_key.false) in
    c.in_ok-insert.ensures.entries ∙ insert_entry-new (pointwise nat_eq) c.self.inside.targets c.args.alias c.new-placed.result absent ∙ ap (λ t. c.self.inside.targets.entries ++ (c.args.alias, t) ∷ []) c.new-placed.ensures ∙ ap (λ l. l ++ (c.args.alias, c.args.target) ∷ []) c.self.view_is

pub invariant_of-self-2 : goal.invariant_of-self-2
invariant_of-self-2 c =
    let absent : target_of c.self.inside.targets.entries c.args.alias ≡ None = is_none _ (sym c.contains_key.ensures ∙ c.if-contains_key.false) in
    grown c.args.self.now _ _ (c.requires.room (ap (λ t. target_of t c.args.alias) (sym c.self.view_is) ∙ absent)) (returns-clause-ok c) c.in_ok-insert.ensures.unique
