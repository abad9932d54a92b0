use Rattle.std.proofs.Common.{sym, ◌∙◌}
use Rattle.fl_rules.specs.Pair.{not_writable, not_readable, secrecy, integrity}
use Rattle.fl_rules.proofs.pair.safe_pair.Goals as goal

pub returns-then-not-writes : goal.returns-then-not-writes
returns-then-not-writes c = not_writable (sym c.writes.ensures ∙ c.if-not-writes.true)

pub returns-then-not-reads : goal.returns-then-not-reads
returns-then-not-reads c =
    not_readable (sym c.writes.ensures ∙ c.if-not-writes.false) (sym c.reads.ensures ∙ c.if-not-reads.true)

pub returns-in-Some : goal.returns-in-Some
returns-in-Some c =
    secrecy (sym c.writes.ensures ∙ c.if-not-writes.false) (sym c.reads.ensures ∙ c.if-not-reads.false) c.in-Some.ensures.is

pub returns-in-Some-first_missing : goal.returns-in-Some-first_missing
returns-in-Some-first_missing c =
    integrity (sym c.writes.ensures ∙ c.if-not-writes.false) (sym c.reads.ensures ∙ c.if-not-reads.false) c.in_default.ensures.is c.in-Some-first_missing.ensures.is
