use Rattle.std.proofs.Common.{subst, refl, ◌↔◌}
use Rattle.std.specs.List.{Contains}
use Rattle.fl_labels.specs.declared.name.Name.{Name}
use Rattle.fl_labels.specs.declared.cap.Cap.TheVariants.{Use}
use Rattle.fl_closure.specs.declared.rows.Owner.TheVariants.{Everybody}
use Rattle.fl_closure.specs.parts.Block.{AreIn}
use Rattle.fl_closure.specs.parts.Rows.{Adds, OfOne, OfEach}
use Rattle.fl_closure.proofs.Giving.{renews_above_all, renews_above, mirrored_above, mirrored_above_all}
use Rattle.fl_closure.proofs.closed.ClosedRows.give_above.Goals.{then-is_everybodys+in_ok-note_all, else-is_everybodys}
use Rattle.fl_closure.proofs.closed.ClosedRows.give_above.Goals as goal

pub returns-clause-ok : goal.returns-clause-ok
returns-clause-ok c =
    let users_are = subst (λ l. (name : Name) → Contains c.in_ok-users.users.items name ↔ AreIn l (Use name)) c.deref.ensures.value c.in_ok-users.ensures in
    let groups_are = subst (λ l. (name : Name) → Contains c.in_ok-groups.groups.items name ↔ AreIn l (Use name)) c.deref-2.ensures.value c.in_ok-groups.ensures in
    let adds = subst (λ l. Adds c.args.self.now.reached (OfEach l c.in_ok-new.new.items) c.note_each-2.new.self) c.deref-5.ensures.value
    (subst (λ l. Adds c.args.self.now.reached (OfEach c.deref-5.result.now l) c.note_each-2.new.self) c.deref-6.ensures.value c.in_ok-note_each-2.ensures.ok) in
    elim c.if-is_everybodys.branch [
      | then-is_everybodys+in_ok-note_all w ↦ rw w.self-is (renews_above_all c.args.self.now c.args.group c.args.cap c.requires.transitive c.requires.mirrored _ _ _ _ _ c.requires.led c.in_ok-above.ensures c.in_ok-new.ensures users_are groups_are c.note_each-2.new.self adds w.note_all.new.self
          (c.is_everybodys.ensures.holds w.if-is_everybodys.true)
          (subst (λ l. Adds c.note_each-2.new.self (OfOne Everybody l) w.note_all.new.self) w.deref-then-is_everybodys.ensures.value w.in_ok-note_all.ensures.ok))
      | else-is_everybodys w ↦ rw w.self-is (renews_above c.args.self.now c.args.group c.args.cap c.requires.transitive c.requires.mirrored _ _ _ _ _ c.requires.led c.in_ok-above.ensures c.in_ok-new.ensures users_are groups_are c.note_each-2.new.self adds
          (c.is_everybodys.ensures.fails w.if-is_everybodys.false))
    ]

pub returns-clause-mirrored : goal.returns-clause-mirrored
returns-clause-mirrored c =
    let users_are = subst (λ l. (name : Name) → Contains c.in_ok-users.users.items name ↔ AreIn l (Use name)) c.deref.ensures.value c.in_ok-users.ensures in
    let groups_are = subst (λ l. (name : Name) → Contains c.in_ok-groups.groups.items name ↔ AreIn l (Use name)) c.deref-2.ensures.value c.in_ok-groups.ensures in
    let adds = subst (λ l. Adds c.args.self.now.reached (OfEach l c.in_ok-new.new.items) c.note_each-2.new.self) c.deref-5.ensures.value
    (subst (λ l. Adds c.args.self.now.reached (OfEach c.deref-5.result.now l) c.note_each-2.new.self) c.deref-6.ensures.value c.in_ok-note_each-2.ensures.ok) in
    let uses = subst (λ l. Adds c.args.self.now.users (OfEach l c.in_ok-above.above.items) c.note_each.new.self) c.deref-3.ensures.value
    (subst (λ l. Adds c.args.self.now.users (OfEach c.deref-3.result.now l) c.note_each.new.self) c.deref-4.ensures.value c.in_ok-note_each.ensures.ok) in
    elim c.if-is_everybodys.branch [
      | then-is_everybodys+in_ok-note_all w ↦ rw w.self-is (mirrored_above_all c.args.self.now c.args.group c.args.cap c.requires.transitive c.requires.mirrored _ _ _ _ _ c.requires.led c.in_ok-above.ensures c.in_ok-new.ensures users_are groups_are c.note_each-2.new.self adds _ uses
          (subst (λ l. Adds c.note_each-2.new.self (OfOne Everybody l) w.note_all.new.self) w.deref-then-is_everybodys.ensures.value w.in_ok-note_all.ensures.ok))
      | else-is_everybodys w ↦ rw w.self-is (mirrored_above c.args.self.now c.args.group c.args.cap c.requires.transitive c.requires.mirrored _ _ _ _ _ c.requires.led c.in_ok-above.ensures c.in_ok-new.ensures users_are groups_are c.note_each-2.new.self adds _ uses refl)
    ]

pub returns-clause-notes : goal.returns-clause-notes
returns-clause-notes c = elim c.if-is_everybodys.branch [
  | then-is_everybodys+in_ok-note_all w ↦ rw (w.self-is, w.notes-is) (record {
    reached = λ first g. w.note_all.ensures.news first (c.note_each-2.ensures.news first g);
    users = c.note_each.ensures.news;
  })
  | else-is_everybodys w ↦ rw (w.self-is, w.notes-is) (record {
    reached = c.note_each-2.ensures.news;
    users = c.note_each.ensures.news;
  })
]
