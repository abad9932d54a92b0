-- Ranks of names in bytes.
use Rattle.std.proofs.Common.{◌≡◌, ℕ, ◌+◌, ◌-◌, ◌*◌, List, slice_index, ap}
use Rattle.fl_labels.specs.declared.name.Name.{Name}
use Rattle.fl_ops.specs.declared.format.Format.{Format}
use Rattle.fl_opset.specs.Rank.{name_rank}
use Rattle.fl_wire.specs.Fields.{tag_key}
use Rattle.fl_wire.specs.parts.Items.{name_key}
use Rattle.fl_wire.specs.PacketGrammar.{rank_at}

-- a name's key is its rank
pub rank_read : (f : Format) (bs : List ℕ) (at : ℕ) (n : Name) → tag_key f bs at ≡ name_key n → rank_at f bs at ≡ name_rank n
rank_read f bs at n e = ap (λ l. (slice_index l 0 - 1) * 4294967296 + slice_index l 1) e
