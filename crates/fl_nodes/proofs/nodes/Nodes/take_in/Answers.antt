use Rattle.fl_nodes.specs.parts.Highest.{IsUpTo}
use Rattle.std.proofs.Common.{◌∙◌, sym, ap, subst}
use Rattle.fl_nodes.proofs.Entries.{held}
use Rattle.fl_nodes.proofs.Highs.{added_up, left_up}
use Rattle.fl_nodes.proofs.Newcomers.{added, some_none}
use Rattle.fl_nodes.proofs.nodes.Nodes.take_in.Goals as goal

pub unreachable-requires : goal.unreachable-requires
unreachable-requires g c =
    some_none c.in-Ok-Some._other (sym c.in-Ok-Some.field-0-is ∙ c.in-Ok-Some.ensures.old
    ∙ (held c.self.inside.all.entries c.self.inside.all.entries c.self.inside.sent.items c.self.inside.audit.items c.args.self.now c.self.view_is c.args.number) ∙ c.requires.absent)

pub returns-in-Ok-None-clause-ok : goal.returns-in-Ok-None-clause-ok
returns-in-Ok-None-clause-ok g c =
    added c.self.inside.all.entries c.insert.new.self.entries c.self.inside.sent.items c.self.inside.audit.items
    c.args.self.now c.self.view_is c.args.number c.args.node c.in-Ok-None.ensures.updates.0

pub invariant_of-self : goal.invariant_of-self
invariant_of-self g c = (
  c.self.invariant.0,
  added_up c.self.inside.highest _ c.self.inside.desks c.raised-highest.ensures.at_least c.self.inside.all.entries c.insert.new.self.entries c.args.number c.args.node
      c.in-Ok-None.ensures.updates.0 c.self.invariant.1
      (subst (IsUpTo c.raised-highest.result) c.saved.ensures.saved c.raised-highest.ensures.covers)
      (c.requires.desks ∙ sym (ap (λ t. t.desks) c.self.view_is)),
)

pub invariant_of-self-in-Err : goal.invariant_of-self-in-Err
invariant_of-self-in-Err g c = (c.self.invariant.0, left_up c.self.inside.highest c.self.inside.desks c.self.inside.all.entries _ c.in-Err.ensures.err c.self.invariant.1)
