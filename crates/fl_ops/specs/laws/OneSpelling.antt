-- What an operation spells has no fault, and is spelled by no other, in either format.
use Rattle.std.proofs.Common.{◌≡◌, ℕ, ◌≤◌, List, [], ◌∷◌, ◌++◌, length, get_or, take, drop, sym, ap, subst, refl, ◌∙◌, lit≤, append_assoc, arith, None}
use Rattle.std.specs.Int.{w32, from_be_bytes}
use Rattle.fl_labels.specs.declared.name.Name.{Name}
use Rattle.fl_labels.specs.declared.cap.Cap.{Cap}
use Rattle.fl_labels.specs.Cap.{cap_name}
use Rattle.fl_labels.specs.NameOrder.{same_name}
use Rattle.fl_ops.specs.declared.format.Format.{Format}
use Rattle.fl_ops.specs.declared.format.Format.TheVariants.{One, Two}
use Rattle.fl_ops.specs.declared.op.Policy.{Policy}
use Rattle.fl_ops.specs.declared.op.Policy.TheVariants.{Export, Read, Integrity}
use Rattle.fl_ops.specs.declared.op.Body.{Body}
use Rattle.fl_ops.specs.declared.op.Body.TheVariants.{MakeTag, MakeGroup, Put, MakeLogin, Open}
use Rattle.fl_ops.specs.declared.op.Op.{Op}
use Rattle.fl_ops.specs.Format.{format_byte, node_width, node_size}
use Rattle.fl_ops.specs.Bytes.{name_bytes, cap_bytes, name_size, policy_byte, kind_byte, body_bytes, op_bytes}
use Rattle.fl_ops.specs.Fits.{HasName, HasCap, HasNames, HasOp}
use Rattle.fl_ops.specs.OpLaws.{cap_same, same_digest}
use Rattle.fl_ops.specs.Grammar.{format_of, later_fields, first_fault, op_fault}
use Rattle.fl_ops.specs.laws.Spelled.{name_parts, there, byte_is, op_is}

-- ---- no fault

said : (f : Format) → format_of (format_byte f) ≡ f
said One = refl
said Two = refl

format_range : (f : Format) → (1 ≤ format_byte f) × (format_byte f ≤ 2)
format_range One = (lit≤ tt, lit≤ tt)
format_range Two = (lit≤ tt, lit≤ tt)

-- what an operation spells has no fault
pub no_fault : (f : Format) (op : Op) (rest : List ℕ) → HasOp f op → op_fault (op_bytes f op ++ rest) ≡ None
no_fault f op rest has =
    let bs = op_bytes f op ++ rest in
    let range = format_range f in
    let first = byte_is bs 0 (format_byte f) (kind_byte op.body ∷ ((name_bytes f op.name ++ body_bytes f op.body) ++ rest)) 1 2 range.0 range.1 refl in
    there 0 (later_fields (format_of (format_byte f)) bs 0) first.0 (ap (λ g. first_fault (later_fields g bs 0)) (said f) ∙ (op_is bs f 0 op rest has refl).later)

-- the second format has all operations
pub second_has : (op : Op) → HasOp Two op
second_has op = record { name = op.name.node_in_range.1; body = record { kind = kind_most op.body; names = names op.body } }
  where
    kind_most : (body : Body) → kind_byte body ≤ 5
    kind_most (MakeTag p) = lit≤ tt
    kind_most MakeGroup = lit≤ tt
    kind_most (Put g c) = lit≤ tt
    kind_most (MakeLogin c d) = lit≤ tt
    kind_most (Open g) = lit≤ tt

    names : (body : Body) → HasNames Two body
    names (MakeTag p) = tt
    names MakeGroup = tt
    names (Put g c) = (g.node_in_range.1, (cap_name c).node_in_range.1)
    names (MakeLogin c d) = (cap_name c).node_in_range.1
    names (Open g) = g.node_in_range.1

-- ---- one operation

-- a name, before whatever follows it
pub name_front : (f : Format) (n m : Name) (u v : List ℕ) → HasName f n → HasName f m
    → name_bytes f n ++ u ≡ name_bytes f m ++ v → (n ≡ m) × (u ≡ v)
name_front f n m u v has other e =
    let first = name_parts f n u has in
    let second = name_parts f m v other in (
      same_name n m
          (sym first.node ∙ ap (λ l. from_be_bytes (node_width f) (take (node_size f) l)) e ∙ second.node)
          (sym first.seq ∙ ap (λ l. from_be_bytes w32 (take 4 (drop (node_size f) l))) e ∙ second.seq),
      sym first.after ∙ ap (drop (name_size f)) e ∙ second.after,
    )

-- and a capability
pub cap_front : (f : Format) (a b : Cap) (u v : List ℕ) → HasCap f a → HasCap f b
    → cap_bytes f a ++ u ≡ cap_bytes f b ++ v → (a ≡ b) × (u ≡ v)
cap_front f a b u v has other e =
    let rest = name_front f (cap_name a) (cap_name b) u v has other (ap (drop 1) e) in
    (cap_same a b (ap (λ l. get_or l 0 0) e) rest.0, rest.1)

policy_same : (p q : Policy) → policy_byte p ≡ policy_byte q → p ≡ q
policy_same Export Export e = refl
policy_same Read Read e = refl
policy_same Integrity Integrity e = refl
policy_same p q e = absurd (cc)

bytes_front : (a b u v : List ℕ) → length a ≡ length b → a ++ u ≡ b ++ v → (a ≡ b) × (u ≡ v)
bytes_front [] [] u v n e = (refl, e)
bytes_front [] (y ∷ b) u v n e = absurd (omega arith)
bytes_front (x ∷ a) [] u v n e = absurd (omega arith)
bytes_front (x ∷ a) (y ∷ b) u v n e =
    let rest = bytes_front a b u v (omega arith) (ap (drop 1) e) in
    (λ i. (ap (λ l. get_or l 0 0) e i) ∷ rest.0 i, rest.1)

body_front : (f : Format) (a b : Body) (u v : List ℕ) → HasNames f a → HasNames f b → kind_byte a ≡ kind_byte b
    → body_bytes f a ++ u ≡ body_bytes f b ++ v → (a ≡ b) × (u ≡ v)
body_front f (MakeTag p) (MakeTag q) u v has other k e =
    (ap MakeTag (policy_same p q (ap (λ l. get_or l 0 0) e)), ap (drop 1) e)
body_front f MakeGroup MakeGroup u v has other k e = (refl, e)
body_front f (Put g c) (Put h d) u v has other k e =
    let first = name_front f g h (cap_bytes f c ++ u) (cap_bytes f d ++ v) has.0 other.0
    (sym (append_assoc (name_bytes f g) (cap_bytes f c) u) ∙ e ∙ append_assoc (name_bytes f h) (cap_bytes f d) v) in
    let second = cap_front f c d u v has.1 other.1 first.1 in
    (λ x. Put (first.0 x) (second.0 x), second.1)
body_front f (MakeLogin c d) (MakeLogin c' d') u v has other k e =
    let first = cap_front f c c' (d.bytes ++ u) (d'.bytes ++ v) has other
    (sym (append_assoc (cap_bytes f c) d.bytes u) ∙ e ∙ append_assoc (cap_bytes f c') d'.bytes v) in
    let second = bytes_front d.bytes d'.bytes u v (d.sized ∙ sym d'.sized) first.1 in
    let digest = same_digest d d' second.0 in
    (λ x. MakeLogin (first.0 x) (digest x), second.1)
body_front f (Open g) (Open h) u v has other k e =
    let group = name_front f g h u v has other e in
    (ap Open group.0, group.1)
body_front f a b u v has other k e = absurd (cc)

-- no spelling of a format begins another of it
front_in : (f : Format) (a b : Op) (u v : List ℕ) → HasOp f a → HasOp f b → op_bytes f a ++ u ≡ op_bytes f b ++ v → (a ≡ b) × (u ≡ v)
front_in f a b u v has other e =
    let regroup : (o : Op) (w : List ℕ) → drop 2 (op_bytes f o ++ w) ≡ name_bytes f o.name ++ (body_bytes f o.body ++ w) =
    λ o w. append_assoc (name_bytes f o.name) (body_bytes f o.body) w in
    let first = name_front f a.name b.name (body_bytes f a.body ++ u) (body_bytes f b.body ++ v) has.name other.name
    (sym (regroup a u) ∙ ap (drop 2) e ∙ regroup b v) in
    let second = body_front f a.body b.body u v has.body.names other.body.names (ap (λ l. get_or l 1 0) e) first.1 in
    (λ x. record { name = first.0 x; body = second.0 x }, second.1)

same_format : (f g : Format) → format_byte f ≡ format_byte g → f ≡ g
same_format One One e = refl
same_format Two Two e = refl
same_format f g e = absurd (cc)

-- no spelling begins another
pub op_front : (f g : Format) (a b : Op) (u v : List ℕ) → HasOp f a → HasOp g b → op_bytes f a ++ u ≡ op_bytes g b ++ v
    → (f ≡ g) × (a ≡ b) × (u ≡ v)
op_front f g a b u v has other e =
    let same = same_format f g (ap (λ l. get_or l 0 0) e) in
    let rest = front_in f a b u v has (subst (λ h. HasOp h b) (sym same) other) (e ∙ ap (λ h. op_bytes h b ++ v) (sym same)) in
    (same, rest.0, rest.1)
