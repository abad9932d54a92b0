-- Operations are ordered by name, and then by their bytes.
use Rattle.std.proofs.Common.{◌≡◌, ℕ, ◌+◌, ◌*◌, ◌/◌, ◌%◌, ◌^◌, ◌<◌, List, [], ◌∷◌, ◌++◌, refl, sym, ap, ◌∙◌, inl, inr, Ordering, Less, Equal, Greater, arith}
use Rattle.std.specs.Cmp.{tied_itself, nat_cmp_total}
use Rattle.std.specs.Cmp.Lexicographic.{slice_cmp}
use Rattle.std.specs.Ordering.{nat_cmp, ordering_then}
use Rattle.std.proofs.lemmas.Bool.{cases_order, lt-ltb, le-ltb, ne_eqb}
use Rattle.fl_labels.specs.declared.name.Name.{Name}
use Rattle.fl_labels.specs.Name.{name_cmp}
use Rattle.fl_labels.specs.NameOrder.{name_exact}
use Rattle.fl_labels.specs.declared.cap.Cap.{Cap}
use Rattle.fl_labels.specs.Cap.{cap_name, cap_rank}
use Rattle.fl_ops.specs.declared.op.Body.{Body}
use Rattle.fl_ops.specs.declared.op.Body.TheVariants.{MakeTag, MakeGroup, Put, MakeLogin, Open}
use Rattle.fl_ops.specs.declared.op.Op.{Op}
use Rattle.fl_ops.specs.declared.format.Format.TheVariants.{Two}
use Rattle.fl_ops.specs.Bytes.{policy_byte, name_bytes, cap_bytes, kind_byte, body_bytes, op_bytes}
use Rattle.fl_ops.specs.OpOrder.{body_key, op_cmp}

cmp_less : (a b : ℕ) → a < b → nat_cmp a b ≡ Less
cmp_less a b h = rw (lt-ltb a b h) refl

cmp_same : (a b : ℕ) → a ≡ b → nat_cmp a b ≡ Equal
cmp_same a b h = ap (nat_cmp a) (sym h) ∙ tied_itself nat_cmp_total a

cmp_more : (a b : ℕ) → b < a → nat_cmp a b ≡ Greater
cmp_more a b h = rw (le-ltb a b (omega arith), ne_eqb a b (λ e. absurd (omega arith))) refl

-- one digit more
digit : (a b p q r s : ℕ) → a ≡ p * 256 + q → b ≡ r * 256 + s → q < 256 → s < 256 → nat_cmp a b ≡ ordering_then (nat_cmp p r) (nat_cmp q s)
digit a b p q r s e f h k =
    elim (cases_order p r) [
      | inl same ↦ sym (ap (λ o. ordering_then o (nat_cmp q s)) (cmp_same p r same) ∙ elim (cases_order q s) [
        | inl alike ↦ cmp_same q s alike ∙ sym (cmp_same a b (omega arith))
        | inr (inl less) ↦ cmp_less q s less ∙ sym (cmp_less a b (omega arith))
        | inr (inr more) ↦ cmp_more q s more ∙ sym (cmp_more a b (omega arith))
      ])
      | inr (inl less) ↦ cmp_less a b (omega arith) ∙ ap (λ o. ordering_then o (nat_cmp q s)) (sym (cmp_less p r less))
      | inr (inr more) ↦ cmp_more a b (omega arith) ∙ ap (λ o. ordering_then o (nat_cmp q s)) (sym (cmp_more p r more))
    ]

then_then : (o p q : Ordering) → ordering_then (ordering_then o p) q ≡ ordering_then o (ordering_then p q)
then_then Less p q = refl
then_then Equal p q = refl
then_then Greater p q = refl

four_bytes : (a b : ℕ) (o : Ordering) → a < 2 ^ 32 → b < 2 ^ 32 →
    ordering_then (nat_cmp (a / 16777216 % 256) (b / 16777216 % 256)) (ordering_then (nat_cmp (a / 65536 % 256) (b / 65536 % 256)) (ordering_then (nat_cmp (a / 256 % 256) (b / 256 % 256)) (ordering_then (nat_cmp (a % 256) (b % 256)) o))) ≡ ordering_then (nat_cmp a b) o
four_bytes a b o h k =
    let high = digit (a / 65536) (b / 65536) (a / 16777216 % 256) (a / 65536 % 256) (b / 16777216 % 256) (b / 65536 % 256) (omega arith) (omega arith) (omega arith) (omega arith) in
    let middle = digit (a / 256) (b / 256) (a / 65536) (a / 256 % 256) (b / 65536) (b / 256 % 256) (omega arith) (omega arith) (omega arith) (omega arith) in
    let low = digit a b (a / 256) (a % 256) (b / 256) (b % 256) (omega arith) (omega arith) (omega arith) (omega arith) in
    let d1 = nat_cmp (a / 16777216 % 256) (b / 16777216 % 256) in
    let d2 = nat_cmp (a / 65536 % 256) (b / 65536 % 256) in
    let d3 = nat_cmp (a / 256 % 256) (b / 256 % 256) in
    let d4 = nat_cmp (a % 256) (b % 256) in
    sym (then_then d1 d2 (ordering_then d3 (ordering_then d4 o))) ∙ ap (λ p. ordering_then p (ordering_then d3 (ordering_then d4 o))) (sym high)
    ∙ sym (then_then (nat_cmp (a / 65536) (b / 65536)) d3 (ordering_then d4 o)) ∙ ap (λ p. ordering_then p (ordering_then d4 o)) (sym middle)
    ∙ sym (then_then (nat_cmp (a / 256) (b / 256)) d4 o) ∙ ap (λ p. ordering_then p o) (sym low)

-- a name's bytes
name_first : (n m : Name) (u v : List ℕ) → slice_cmp nat_cmp (name_bytes Two n ++ u) (name_bytes Two m ++ v) ≡ slice_cmp nat_cmp (n.node ∷ n.seq ∷ u) (m.node ∷ m.seq ∷ v)
name_first n m u v =
    four_bytes n.node m.node _ n.node_in_range.1 m.node_in_range.1
    ∙ ap (ordering_then (nat_cmp n.node m.node)) (four_bytes n.seq m.seq (slice_cmp nat_cmp u v) n.seq_in_range.1 m.seq_in_range.1)

-- a capability's bytes
cap_first : (c d : Cap) (u v : List ℕ) → slice_cmp nat_cmp (cap_bytes Two c ++ u) (cap_bytes Two d ++ v) ≡ slice_cmp nat_cmp (cap_rank c ∷ (cap_name c).node ∷ (cap_name c).seq ∷ u) (cap_rank d ∷ (cap_name d).node ∷ (cap_name d).seq ∷ v)
cap_first c d u v = ap (ordering_then (nat_cmp (cap_rank c) (cap_rank d))) (name_first (cap_name c) (cap_name d) u v)

same_front : (p u v : List ℕ) → slice_cmp nat_cmp (p ++ u) (p ++ v) ≡ slice_cmp nat_cmp u v
same_front [] u v = refl
same_front (x ∷ p) u v = ap (λ o. ordering_then o (slice_cmp nat_cmp (p ++ u) (p ++ v))) (tied_itself nat_cmp_total x) ∙ same_front p u v

-- two bodies, behind one name
body_first : (n : Name) (a b : Body) → slice_cmp nat_cmp (kind_byte a ∷ (name_bytes Two n ++ body_bytes Two a)) (kind_byte b ∷ (name_bytes Two n ++ body_bytes Two b)) ≡ slice_cmp nat_cmp (body_key a) (body_key b)
body_first n (MakeTag p) (MakeTag q) = same_front (name_bytes Two n) (policy_byte p ∷ []) (policy_byte q ∷ [])
body_first n MakeGroup MakeGroup = same_front (name_bytes Two n) [] []
body_first n (Put g c) (Put h d) =
    same_front (name_bytes Two n) (body_bytes Two (Put g c)) (body_bytes Two (Put h d)) ∙ name_first g h (cap_bytes Two c) (cap_bytes Two d)
    ∙ ap (λ o. ordering_then (nat_cmp g.node h.node) (ordering_then (nat_cmp g.seq h.seq) o)) (ends c d)
  where
    ends : (c d : Cap) → slice_cmp nat_cmp (cap_bytes Two c) (cap_bytes Two d) ≡ slice_cmp nat_cmp (cap_rank c ∷ (cap_name c).node ∷ (cap_name c).seq ∷ []) (cap_rank d ∷ (cap_name d).node ∷ (cap_name d).seq ∷ [])
    ends c d = cap_first c d [] []
body_first n (MakeLogin c x) (MakeLogin d y) = same_front (name_bytes Two n) (cap_bytes Two c ++ x.bytes) (cap_bytes Two d ++ y.bytes) ∙ cap_first c d x.bytes y.bytes
body_first n (Open g) (Open h) = same_front (name_bytes Two n) (name_bytes Two g) (name_bytes Two h) ∙ name_whole g h
  where
    name_whole : (g h : Name) → slice_cmp nat_cmp (name_bytes Two g) (name_bytes Two h) ≡ slice_cmp nat_cmp (g.node ∷ g.seq ∷ []) (h.node ∷ h.seq ∷ [])
    name_whole g h = name_first g h [] []
body_first n (MakeTag p) MakeGroup = refl
body_first n (MakeTag p) (Put h d) = refl
body_first n (MakeTag p) (MakeLogin d y) = refl
body_first n MakeGroup (MakeTag q) = refl
body_first n MakeGroup (Put h d) = refl
body_first n MakeGroup (MakeLogin d y) = refl
body_first n (Put g c) (MakeTag q) = refl
body_first n (Put g c) MakeGroup = refl
body_first n (Put g c) (MakeLogin d y) = refl
body_first n (MakeLogin c x) (MakeTag q) = refl
body_first n (MakeLogin c x) MakeGroup = refl
body_first n (MakeLogin c x) (Put h d) = refl
body_first n (MakeTag p) (Open h) = refl
body_first n MakeGroup (Open h) = refl
body_first n (Put g c) (Open h) = refl
body_first n (MakeLogin c x) (Open h) = refl
body_first n (Open g) (MakeTag q) = refl
body_first n (Open g) MakeGroup = refl
body_first n (Open g) (Put h d) = refl
body_first n (Open g) (MakeLogin d y) = refl

-- operations are ordered by name, and then by their bytes
pub by_bytes : (a b : Op) → op_cmp a b ≡ ordering_then (name_cmp a.name b.name) (slice_cmp nat_cmp (op_bytes Two a) (op_bytes Two b))
by_bytes a b = go (name_cmp a.name b.name) refl
  where
    go : (o : Ordering) → name_cmp a.name b.name ≡ o → ordering_then o (slice_cmp nat_cmp (body_key a.body) (body_key b.body)) ≡ ordering_then o (slice_cmp nat_cmp (op_bytes Two a) (op_bytes Two b))
    go Less e = refl
    go Greater e = refl
    go Equal e = sym (ap (λ m. slice_cmp nat_cmp (op_bytes Two a) (op_bytes Two (record { name = m; body = b.body }))) (sym (name_exact a.name b.name e)) ∙ body_first a.name a.body b.body)
