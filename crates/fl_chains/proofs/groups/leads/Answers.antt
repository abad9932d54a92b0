use Rattle.std.proofs.Common.{sym, ◌∙◌}
use Rattle.fl_labels.specs.NameOrder.{name_total, name_exact}
use Rattle.fl_ops.specs.Registry.{Listed}
use Rattle.fl_chains.specs.Leading.{GroupLeads}
use Rattle.fl_chains.proofs.Equal.{caps_same}
use Rattle.fl_chains.proofs.Rooting.{told_yes}
use Rattle.fl_chains.proofs.Ways.{itself_leads, searched_rising}
use Rattle.fl_chains.proofs.groups.leads.Goals as goal

pub returns-then-eq : goal.returns-then-eq
returns-then-eq c = told_yes (itself_leads (Listed c.args.target.ops.now) c.args.target.cap
    c.args.from (caps_same (sym c.eq.ensures ∙ c.if-eq.true)))

pub returns-in-Use : goal.returns-in-Use
returns-in-Use c = rw (c.in-Use.is) (searched_rising name_total name_exact
    (GroupLeads (Listed c.args.target.ops.now) c.args.target.cap) c.args.target.groups.now
    c.in-Use.group c.binary_search.result _ c.requires c.binary_search.ensures.bound
    c.binary_search.ensures.position c.is_ok.ensures.value)
