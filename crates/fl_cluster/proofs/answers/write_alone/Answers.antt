use Rattle.std.proofs.Common.{◌≡◌, ◌∙◌, [], sym}
use Rattle.std.proofs.lemmas.List.{nil_from_length}
use Rattle.std.specs.declared.cmp.Ordering.{Ordering}
use Rattle.fl_labels.specs.SetBy as set
use Rattle.fl_labels.specs.SetBy.{len-empty, len-members, members}
use Rattle.fl_cluster.proofs.answers.write_alone.Goals as goal

-- the empty set has no members
no_members : {K : Type 0} (R : K → K → Ordering) → members (set.empty {R = R}) ≡ []
no_members R = nil_from_length _ (sym (len-members (set.empty {R = R})) ∙ len-empty R)

pub returns-in-Text-clause-puts : goal.returns-in-Text-clause-puts
returns-in-Text-clause-puts g c = rw (c.in-Text.is, no_members) c.put_all.ensures.puts

pub returns-in-BadPacket-clause-puts : goal.returns-in-BadPacket-clause-puts
returns-in-BadPacket-clause-puts g c = rw c.in-BadPacket.is c.write_count.ensures.puts

pub returns-in-Unknown-clause-puts : goal.returns-in-Unknown-clause-puts
returns-in-Unknown-clause-puts g c = rw c.in-Unknown.is c.write_count-in-Unknown.ensures.puts
