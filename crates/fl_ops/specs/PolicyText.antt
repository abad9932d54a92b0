-- How a policy is written.
use Rattle.std.specs.Prelude.{ℕ, List, codes}
use Rattle.fl_ops.specs.declared.op.Policy.{Policy}
use Rattle.fl_ops.specs.declared.op.Policy.TheVariants.{Export, Read, Integrity}

-- `export`, `read`, `integrity`
abbrev pub policy_text : Policy → List ℕ
policy_text Export = codes "export"
policy_text Read = codes "read"
policy_text Integrity = codes "integrity"
