-- Operations that are read one after another.
use Rattle.std.specs.Prelude.{◌≡◌, ℕ, ◌+◌, ◌-◌, ◌<◌, true, List, [], ◌∷◌, ◌++◌, ◌≤◌, length, drop, slice_index, slice_get, Option, None}
use Rattle.std.specs.Cmp.Lexicographic.{slice_cmp}
use Rattle.std.specs.Int.{w32, to_be_bytes}
use Rattle.std.specs.Option.{option_map}
use Rattle.std.specs.Ordering.{nat_cmp, is_lt}
use Rattle.std.specs.List.{flat_map, AllByRecursion}
use Rattle.std.specs.List.Sorted.{IsStrictlySortedBy}
use Rattle.fl_labels.specs.declared.name.Name.{Name}
use Rattle.fl_labels.specs.Name.{name_cmp}
use Rattle.fl_ops.specs.declared.op.Op.{Op}
use Rattle.fl_ops.specs.declared.format.Format.{Format}
use Rattle.fl_ops.specs.Format.{node_width, node_limit}
use Rattle.fl_ops.specs.Fits.{HasBody, HasOp}
use Rattle.fl_ops.specs.Bytes.{name_size, kind_byte, body_bytes, op_bytes}
use Rattle.fl_ops.specs.Grammar.{first_fault, has_name}
use Rattle.fl_wire.specs.parts.Items.{name_key, key_before, is_above}
use Rattle.fl_wire.specs.NameOrder.{by_name}
use Rattle.fl_wire.specs.PacketGrammar.{next_op, op_size, ops_fields}
use Rattle.fl_wire.specs.Fields.{is_next, tag_key}

-- the operation at the place, above the name before, and where it ends
pub record IsNextOp (f : Format) (bytes : List ℕ) (at : ℕ) (before : Option Name) (op : Op) (end : ℕ) : Type 0 where
  pub whole : first_fault (next_op f bytes at (key_before name_key before)) ≡ None
  pub above : is_above name_cmp before op.name ≡ true
  pub spelled : drop at bytes ≡ op_bytes f op ++ drop end bytes
  pub keyed : tag_key f bytes (at + 2) ≡ name_key op.name
  pub ends : at + op_size f (slice_index bytes (at + 1)) ≡ end
  pub short : end ≤ at + 51
  pub has : HasOp f op

-- the name of the last operation, where there is one
abbrev pub last_name : List Op → Option Name
last_name ops = option_map (λ op. op.name) (slice_get ops (length ops - 1))

-- these are the numbers of the name at the place, whose key is above this one
pub record AreNumbers (f : Format) (bytes : List ℕ) (at : ℕ) (before : List ℕ) (node seq : ℕ) : Type 0 where
  pub next : is_next (has_name f bytes) (tag_key f bytes) at before ≡ true
  pub above : is_lt (slice_cmp nat_cmp before (node ∷ seq ∷ [])) ≡ true
  pub some_node : 0 < node
  pub fits : node < node_limit f
  pub some_seq : 0 < seq
  pub spelled : drop at bytes ≡ to_be_bytes (node_width f) node ++ (to_be_bytes w32 seq ++ drop (at + name_size f) bytes)

-- new are the old operations and one of this name and kind, whose body is from the place to the end
pub record AddsBody (f : Format) (bytes : List ℕ) (at node seq kind : ℕ) (old new : List Op) (end : ℕ) : Type 0 where
  pub op : Op
  pub added : new ≡ old ++ op ∷ []
  pub of_node : op.name.node ≡ node
  pub of_seq : op.name.seq ≡ seq
  pub of_kind : kind_byte op.body ≡ kind
  pub has : HasBody f op.body
  pub spelled : drop at bytes ≡ body_bytes f op.body ++ drop end bytes
  pub ends : end ≡ at + length (body_bytes f op.body)

-- new are the old operations and the one at the place, above them, which goes to the end
pub record AddsNextOp (f : Format) (bytes : List ℕ) (at : ℕ) (old new : List Op) (end : ℕ) : Type 0 where
  pub op : Op
  pub added : new ≡ old ++ op ∷ []
  pub next : IsNextOp f bytes at (last_name old) op end

-- the operations from a place to the end
pub record AreOps (f : Format) (bytes : List ℕ) (at count : ℕ) (ops : List Op) : Type 0 where
  pub whole : first_fault (ops_fields f bytes at [] count) ≡ None
  pub rises : IsStrictlySortedBy by_name ops
  pub counted : length ops ≡ count
  pub has : AllByRecursion (HasOp f) ops
  pub spelled : drop at bytes ≡ flat_map (op_bytes f) ops
