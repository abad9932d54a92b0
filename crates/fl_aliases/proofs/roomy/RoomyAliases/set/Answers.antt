use Rattle.std.proofs.Common.{◌≡◌, ◌<◌, ◌≤◌, None, nat_eq, length, sym, ap, subst, ◌∙◌}
use Rattle.std.specs.Cmp.Lexicographic.{pointwise}
use Rattle.indexmap.specs.IndexMap.{insert_entry, spare}
use Rattle.fl_aliases.specs.Table.{target_of, with_alias}
use Rattle.fl_aliases.specs.Roomy.{RoomyTable}
use Rattle.fl_aliases.proofs.Tables.{few_with, from_ok, has_room, inserted}
use Rattle.fl_aliases.proofs.roomy.RoomyAliases.set.Goals as goal

pub returns-clause-table : goal.returns-clause-table
returns-clause-table c =
    let map = c.self.inside.targets in
    let table : map.entries ≡ c.args.self.now.table = ap (λ (roomy : RoomyTable). roomy.table) c.self.view_is in
    let room : spare map ≡ c.args.self.now.room = ap (λ (roomy : RoomyTable). roomy.room) c.self.view_is in
    let some : target_of map.entries c.args.alias ≡ None → 0 < spare map =
    λ absent. subst (λ n. 0 < n) (sym room) (c.requires.room (ap (λ t. target_of t c.args.alias) (sym table) ∙ absent)) in
    from_ok c.insert.result _ (has_room c.insert.result _ _ c.insert.ensures.absent some c.insert.ensures.succeeds) c.insert.ensures.entries
    ∙ ap (λ t. insert_entry (pointwise nat_eq) map.entries c.args.alias t) c.new.ensures
    ∙ inserted map c.args.alias c.args.target ∙ ap (λ t. with_alias t c.args.alias c.args.target) table

pub invariant_of-self : goal.invariant_of-self
invariant_of-self c =
    let table : c.self.inside.targets.entries ≡ c.args.self.now.table = ap (λ (roomy : RoomyTable). roomy.table) c.self.view_is in
    record {
      short = subst (λ t. length t ≤ 1024) (sym (returns-clause-table c)) (few_with c.args.self.now.table c.args.alias c.args.target c.requires.few (subst (λ t. length t ≤ 1024) table c.self.invariant.short));
      once = c.insert.ensures.unique;
    }
